-- The number of a day, counted from the March 1st before it.
use Rattle.std.proofs.Common.{◌≡◌, ℕ, ◌+◌, ◌-◌, ◌<◌, ◌≤◌, Bool, cond, inl, inr, ap, arith, ℤ, pos, negsuc, ◌+ℤ◌, ◌-ℤ◌, ◌≤ℤ◌}
use Rattle.std.proofs.lemmas.Int.{ints}
use Rattle.std.proofs.lemmas.Bool.{cases_lt}
use mir.Syntax.{w32}
use mir.Val.{SFits}
use Rattle.tz_base.specs.Cycles.{days_of_march_years}
use Rattle.tz_base.specs.Days.{is_leap, months_length, day_number}
use Rattle.tz_base.proofs.YearStarts.{is_leap-moved, first_day-moved}
use Rattle.tz_base.proofs.MarchYears.{days_of_years-next, days_of_years-same}
use Rattle.tz_base.proofs.MonthsFromMarch.{months_length-bound}
use Rattle.tz_base.proofs.DateOrder.{first_day-mono}
use Rattle.tz_base.proofs.DaysOfYears.{day_number-is, first_day_bounds}

-- January and February end a year that began in March
day_in_early : (year : ℤ) (n month month_day days : ℕ) → year +ℤ pos 2147484000 ≡ pos (n + 1)
    → days ≡ 306 + months_length (is_leap year) (month - 1)
    → pos (days_of_march_years n + days + month_day) -ℤ pos 784353144339 ≡ day_number year month month_day
day_in_early year n month month_day days moved from_march =
    let first = first_day-moved year (n + 1) 5368710 moved in
    let march = days_of_years-next n in
    rw (day_number-is year month month_day) (omega (arith, ints))

-- the other months are in the year that begins with their March
day_in_late : (year : ℤ) (n month month_day days : ℕ) → year +ℤ pos 2147484000 ≡ pos n
    → days + cond (is_leap year) 60 59 ≡ months_length (is_leap year) (month - 1)
    → pos (days_of_march_years n + days + month_day) -ℤ pos 784353144339 ≡ day_number year month month_day
day_in_late year n month month_day days moved from_march =
    let first = first_day-moved year n 5368710 moved in
    let leap : cond {A = ℕ} (is_leap year) 60 59 ≡ cond (is_leap (pos n)) 60 59 =
    ap (λ b. cond b 60 59) (is_leap-moved year n 5368710 moved) in
    let march = days_of_years-same n in
    rw (day_number-is year month month_day) (omega (arith, ints))

-- what the calendar finds is the number of the day
pub march_day_is : (year : ℤ) (n month month_day days : ℕ)
    → (month < 3 → pos n +ℤ pos 1 ≡ year +ℤ pos 2147484000) → (3 ≤ month → pos n ≡ year +ℤ pos 2147484000)
    → (month < 3 → (leap : Bool) → days ≡ 306 + months_length leap (month - 1))
    → (3 ≤ month → (leap : Bool) → days + cond leap 60 59 ≡ months_length leap (month - 1))
    → pos (days_of_march_years n + days + month_day) -ℤ pos 784353144339 ≡ day_number year month month_day
march_day_is year n month month_day days year_early year_late days_early days_late =
    elim (cases_lt month 3) [
      | inl early ↦ day_in_early year n month month_day days (omega (arith, ints, year_early early))
          (days_early early (is_leap year))
      | inr late ↦ day_in_late year n month month_day days (omega (arith, ints, year_late late))
          (days_late late (is_leap year))
    ]

-- the days of the years of 32 bits, with days past the end of their month
pub day_number_bounds : (year : ℤ) (month month_day : ℕ) → SFits w32 year → 1 ≤ month → month ≤ 12 → 1 ≤ month_day
    → month_day ≤ 255
    → (negsuc 784353015832 ≤ℤ day_number year month month_day) × (day_number year month month_day ≤ℤ pos 784351577001)
day_number_bounds year month month_day fits low high day_low day_high =
    let bounds = first_day_bounds year fits in
    let next = first_day-mono year (year +ℤ pos 1) (omega (arith, ints)) in
    let months = months_length-bound (is_leap year) (month - 1) (omega arith) in
    rw (day_number-is year month month_day) (omega (arith, ints), omega (arith, ints))
