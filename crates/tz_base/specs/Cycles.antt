-- The closed forms that the calendar computes by. Years are moved by cycles of 400 years until they
-- are not negative.
use Rattle.std.specs.Prelude.{ℕ, ◌+◌, ◌-◌, ◌*◌, ◌/◌, ◌%◌}

-- the days of this many years, from January 1st of the year 0
unfoldable pub days_of_years : ℕ → ℕ
days_of_years n = 365 * n + (n + 3) / 4 - (n + 99) / 100 + (n + 399) / 400

-- the days of this many years, from March 1st of the year 0
unfoldable pub days_of_march_years : ℕ → ℕ
days_of_march_years n = 365 * n + n / 4 - n / 100 + n / 400

-- the month of a day of a year that begins on March 1st: 3 is March, and 14 is the next February
unfoldable pub march_month : ℕ → ℕ
march_month day = (2141 * day + 197913) / 65536

-- the day of that month, from 0
unfoldable pub march_month_day : ℕ → ℕ
march_month_day day = (2141 * day + 197913) % 65536 / 2141
