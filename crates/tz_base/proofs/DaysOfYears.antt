-- The place of a year's days among all days.
use Rattle.std.proofs.Common.{◌≡◌, ℕ, suc, ◌+◌, ◌-◌, ◌*◌, ◌<◌, ◌≤◌, Bool, true, false, cond, leb, refl, arith, ℤ, pos, negsuc, ◌+ℤ◌, ◌-ℤ◌, ◌≤ℤ◌}
use Rattle.std.proofs.lemmas.Bool.Decides.{nat_tests}
use Rattle.std.proofs.lemmas.Int.{ints}
use mir.Syntax.{w32}
use mir.Val.{SFits}
use Rattle.tz_base.specs.Days.{is_leap, year_length, month_length, months_length, first_day, day_number}
use Rattle.tz_base.proofs.TestsBelow.{all_below, passes_at}
use Rattle.tz_base.proofs.YearStarts.{first_day-moved, year_length-moved, days_of_years-suc, days_of_years_bounds, days_of_years_last}

-- a day in its parts
pub day_number-is : (year : ℤ) (month month_day : ℕ)
    → day_number year month month_day ≡ first_day year +ℤ pos (months_length (is_leap year) (month - 1))
    +ℤ pos month_day -ℤ pos 1
unfolding day_number
day_number-is year month month_day = refl

-- the months up to the twelfth fit into the year
ends_in_year : Bool → ℕ → Bool
ends_in_year leap months = leb (months_length leap (suc months)) (cond leap 366 365)

all_end_in_year : (leap : Bool) → all_below (ends_in_year leap) 12 ≡ true
unfolding all_below ends_in_year month_length months_length
all_end_in_year false = refl
all_end_in_year true = refl

pub months_length-le_year : (leap : Bool) (months : ℕ) → months < 12
    → months_length leap months + month_length leap (suc months) ≤ cond leap 366 365
unfolding ends_in_year months_length
months_length-le_year leap months h =
    let test = passes_at (ends_in_year leap) 12 months (all_end_in_year leap) h in
    grind (arith, nat_tests)

pub year_length-is : (year : ℤ) → year_length year ≡ cond (is_leap year) 366 365
unfolding year_length
year_length-is year = refl

-- the next year's first day
pub first_day-next : (year : ℤ) → first_day (year +ℤ pos 1) ≡ first_day year +ℤ pos (year_length year)
first_day-next (pos n) =
    let here = first_day-moved (pos n) n 0 (omega (arith, ints)) in
    let there = first_day-moved (pos n +ℤ pos 1) (n + 1) 0 (omega (arith, ints)) in
    omega (arith, ints, days_of_years-suc n)
first_day-next (negsuc n) =
    let here = first_day-moved (negsuc n) (399 * (n + 1)) (n + 1) (omega (arith, ints)) in
    let there = first_day-moved (negsuc n +ℤ pos 1) (399 * (n + 1) + 1) (n + 1) (omega (arith, ints)) in
    let length = year_length-moved (negsuc n) (399 * (n + 1)) (n + 1) (omega (arith, ints)) in
    omega (arith, ints, days_of_years-suc (399 * (n + 1)))

-- a valid day is before the next year
pub day_in_year : (year : ℤ) (month month_day : ℕ) → 1 ≤ month → month ≤ 12 → 1 ≤ month_day
    → month_day ≤ month_length (is_leap year) month
    → (first_day year ≤ℤ day_number year month month_day)
    × ((day_number year month month_day +ℤ pos 1) ≤ℤ first_day (year +ℤ pos 1))
day_in_year year month month_day low high day_low day_high =
    let same : suc (month - 1) ≡ month = omega arith in
    let months = rw same at (months_length-le_year (is_leap year) (month - 1) (omega arith)) in
    let next = first_day-next year in
    let length = year_length-is year in
    rw (day_number-is year month month_day) (omega (arith, ints), omega (arith, ints))

-- the first days of the years of 32 bits, and of the year after them
pub first_day_bounds : (year : ℤ) → SFits w32 year → (negsuc 784353015832 ≤ℤ first_day year)
    × (first_day (year +ℤ pos 1) ≤ℤ pos 784351576777)
first_day_bounds year fits =
    let moved = moved_year year fits in
    let bounds = days_of_years_bounds year moved.0 fits (omega (arith, ints, moved.1)) in
    let first = first_day-moved year moved.0 5368710 moved.1 in
    let length = year_length-moved year moved.0 5368710 moved.1 in
    let next = days_of_years-suc moved.0 in
    let last = days_of_years_last (moved.0 + 1) (omega arith) in
    (omega (arith, ints), omega (arith, ints, first_day-next year))
  where
    moved_year : (year : ℤ) → SFits w32 year → (n : ℕ) × (year +ℤ pos (400 * 5368710) ≡ pos n)
    moved_year (pos n) fits = (n + 2147484000, refl)
    moved_year (negsuc n) fits = (2147483999 - n, omega (arith, ints, fits.sfits))
