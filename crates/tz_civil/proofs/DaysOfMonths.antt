-- Days of a month, and days that are past its end.
use Rattle.std.proofs.Common.{◌≡◌, ℕ, suc, ◌+◌, ◌-◌, ◌≤◌, Bool, true, false, cond, refl, subst, arith, ℤ, pos, ◌+ℤ◌, ◌≤ℤ◌}
use Rattle.std.proofs.lemmas.Int.{ints}
use Rattle.tz_base.specs.Days.{is_leap, month_length, months_length, first_day, day_number}
use Rattle.tz_base.proofs.DaysOfYears.{day_number-is, first_day-next, year_length-is}

-- the days up to a month and in it
months_length-suc : (leap : Bool) (months : ℕ)
    → months_length leap (suc months) ≡ months_length leap months + month_length leap (suc months)
unfolding months_length
months_length-suc leap months = refl

months_length-next : (leap : Bool) (month : ℕ) → 1 ≤ month
    → months_length leap (month + 1 - 1) ≡ months_length leap (month - 1) + month_length leap month
months_length-next leap month h =
    let before : suc (month - 1) ≡ month = omega arith in
    let here : month + 1 - 1 ≡ month = omega arith in
    rw here (subst (λ (m : ℕ). months_length leap m ≡ months_length leap (month - 1) + month_length leap m) before
    (months_length-suc leap (month - 1)))

year_of_months : (leap : Bool) → months_length leap (12 - 1) + month_length leap 12 ≡ cond leap 366 365
unfolding month_length months_length
year_of_months false = refl
year_of_months true = refl

no_months : (leap : Bool) → months_length leap (1 - 1) ≡ 0
unfolding months_length
no_months leap = refl

pub days_on : (year : ℤ) (month d days : ℕ)
    → day_number year month (d + days) ≡ day_number year month d +ℤ pos days
days_on year month d days = rw (day_number-is year month (d + days), day_number-is year month d) (omega (arith, ints))

pub in_next_month : (year : ℤ) (month d days rest : ℕ) → 1 ≤ month
    → d + days ≡ month_length (is_leap year) month + rest
    → day_number year (month + 1) rest ≡ day_number year month d +ℤ pos days
in_next_month year month d days rest low past =
    let next = months_length-next (is_leap year) month low in
    rw (day_number-is year (month + 1) rest, day_number-is year month d) (omega (arith, ints, next, past))

pub in_next_year : (year : ℤ) (d days rest : ℕ) → d + days ≡ month_length (is_leap year) 12 + rest
    → day_number (year +ℤ pos 1) 1 rest ≡ day_number year 12 d +ℤ pos days
in_next_year year d days rest past =
    let next = first_day-next year in
    let length = year_length-is year in
    let months = year_of_months (is_leap year) in
    let none = no_months (is_leap (year +ℤ pos 1)) in
    rw (day_number-is (year +ℤ pos 1) 1 rest, day_number-is year 12 d)
    (omega (arith, ints, next, length, months, none, past))

pub from_first_day : (year : ℤ) (rest : ℕ) → 1 ≤ rest → first_day year ≤ℤ day_number year 1 rest
from_first_day year rest low = rw (day_number-is year 1 rest) (omega (arith, ints, low))
