-- The year, the month and the day of the month that the calendar finds make up the day.
use Rattle.std.proofs.Common.{◌≡◌, ℕ, ◌+◌, ◌-◌, ◌<◌, ◌≤◌, true, cond, ap, arith, ℤ, pos, ◌+ℤ◌, ◌-ℤ◌}
use Rattle.std.proofs.lemmas.Int.{ints}
use Rattle.tz_base.specs.Cycles.{days_of_march_years, march_month, march_month_day}
use Rattle.tz_base.specs.Days.{is_leap, months_length, IsDateOf}
use Rattle.tz_base.proofs.YearStarts.{is_leap-moved, first_day-moved}
use Rattle.tz_base.proofs.DaysOfYears.{day_number-is}
use Rattle.tz_base.proofs.MarchYears.{days_of_years-next, days_of_years-same}
use Rattle.tz_base.proofs.MonthsFromMarch.{IsBeforeJanuary, IsFromJanuary, month_before_january, month_from_january}

-- the days of the years of 32 bits are in these years
pub year_before_january : (n d day : ℕ) → days_of_march_years n + d ≡ day - 60 → 128565 ≤ day → day ≤ 1568704721174
    → d < 306 → (352 ≤ n) × (n ≤ 4294967647)
unfolding days_of_march_years
year_before_january n d day found low high early = (omega arith, omega arith)

pub year_from_january : (n d day : ℕ) → days_of_march_years n + d ≡ day - 60 → 128565 ≤ day → day ≤ 1568704721174
    → 306 ≤ d → d ≤ 365
    → (352 ≤ n + 1) × (n + 1 ≤ 4294967647)
unfolding days_of_march_years
year_from_january n d day found low high late last = (omega arith, omega arith)

-- the date from March to December
pub date_before_january : (n d day : ℕ) (year : ℤ) → days_of_march_years n + d ≡ day - 60 → 128565 ≤ day → d < 306
    → year +ℤ pos 2147484000 ≡ pos n → IsDateOf (pos day -ℤ pos 784353144398) year (march_month d)
    (march_month_day d + 1)
date_before_january n d day year found low early moved =
    let month : IsBeforeJanuary (is_leap year) d = month_before_january (is_leap year) d early in
    let first = first_day-moved year n 5368710 moved in
    let leap : cond {A = ℕ} (is_leap year) 60 59 ≡ cond (is_leap (pos n)) 60 59 =
    ap (λ b. cond b 60 59) (is_leap-moved year n 5368710 moved) in
    let march = days_of_years-same n in
    record {
      month_is = (omega arith, omega arith);
      month_day_is = (omega arith, omega arith);
      day_is = rw (day_number-is year (march_month d) (march_month_day d + 1)) (omega (arith, ints));
    }

-- the date in January and February
pub date_from_january : (n d day : ℕ) (year : ℤ) → days_of_march_years n + d ≡ day - 60 → 128565 ≤ day → 306 ≤ d
    → d ≤ 365
    → (d ≡ 365 → is_leap (pos (n + 1)) ≡ true) → year +ℤ pos 2147484000 ≡ pos (n + 1)
    → IsDateOf (pos day -ℤ pos 784353144398) year (march_month d - 12) (march_month_day d + 1)
date_from_january n d day year found low late last leap_day moved =
    let same = is_leap-moved year (n + 1) 5368710 moved in
    let month : IsFromJanuary (is_leap year) d =
    month_from_january (is_leap year) d late last (λ e. rw same (leap_day e)) in
    let first = first_day-moved year (n + 1) 5368710 moved in
    let march = days_of_years-next n in
    let place : march_month d - 12 - 1 ≡ march_month d - 13 = omega arith in
    let before : months_length (is_leap year) (march_month d - 12 - 1) ≡ months_length (is_leap year)
    (march_month d - 13) =
    ap (λ m. months_length (is_leap year) m) place in
    record {
      month_is = (omega arith, omega arith);
      month_day_is = (omega arith, omega arith);
      day_is = rw (day_number-is year (march_month d - 12) (march_month_day d + 1)) (omega (arith, ints));
    }
