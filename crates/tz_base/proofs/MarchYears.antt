-- Years that begin on March 1st: which year, and which day of it, a day is.
use Rattle.std.proofs.Common.{◌≡◌, ℕ, ◌+◌, ◌*◌, ◌/◌, ◌%◌, ◌<◌, true, cond, arith, pos}
use Rattle.std.proofs.lemmas.Bool.Decides.{nat_tests}
use Rattle.tz_base.specs.Cycles.{days_of_years, days_of_march_years}
use Rattle.tz_base.specs.Days.{is_leap}

-- a year is below a hundred in its century
pub year_of_century_bound : (n : ℕ) → (4 * ((4 * n + 3) % 146097 / 4) + 3) / 1461 < 100
year_of_century_bound n = omega arith

days_of_march_years-split : (c z : ℕ) → z < 100
    → days_of_march_years (100 * c + z) ≡ 36524 * c + c / 4 + 365 * z + z / 4
unfolding days_of_march_years
days_of_march_years-split c z h = omega arith

-- day n is in year z of century c, where i is its day of the century
pub march_year_is : (n c i z : ℕ) → c ≡ (4 * n + 3) / 146097 → i ≡ (4 * n + 3) % 146097 / 4 → z ≡ (4 * i + 3) / 1461
    → z < 100
    → days_of_march_years (100 * c + z) + (4 * i + 3) % 1461 / 4 ≡ n
march_year_is n c i z ec ei ez h = omega (arith, days_of_march_years-split c z h)

-- a 366th day is February 29th of a leap year
pub last_day_is_leap : (n c i z : ℕ) → c ≡ (4 * n + 3) / 146097 → i ≡ (4 * n + 3) % 146097 / 4 → z ≡ (4 * i + 3) / 1461
    → z < 100
    → (4 * i + 3) % 1461 / 4 ≡ 365 → is_leap (pos (100 * c + z + 1)) ≡ true
unfolding is_leap
last_day_is_leap n c i z ec ei ez h last = grind (arith, nat_tests)

-- from March 1st to the next January 1st
pub days_of_years-next : (n : ℕ) → days_of_years (n + 1) ≡ days_of_march_years n + 366
unfolding days_of_years days_of_march_years
days_of_years-next n = omega arith

-- from January 1st to March 1st
pub days_of_years-same : (n : ℕ) → days_of_years n + cond (is_leap (pos n)) 60 59 ≡ days_of_march_years n + 60
unfolding days_of_years days_of_march_years is_leap
days_of_years-same n = grind (arith, nat_tests)
