-- Days of the proleptic Gregorian calendar, for every whole year, counted from 1970-01-01. Source:
-- the Gregorian rule of leap years (Inter gravissimas, 1582), carried to all years as in ISO 8601.
use Rattle.std.specs.Prelude.{◌≡◌, ℕ, zero, suc, ◌+◌, ◌-◌, ◌%◌, ◌<◌, ◌≤◌, ◌⊎◌, ◌<ℤ◌, ◌==◌, ◌&&◌, ◌||◌, not, Bool, ℤ, pos, negsuc, ◌+ℤ◌, ◌-ℤ◌, neg_ℤ, unsigned_abs, if◌then◌else◌}
use Rattle.std.specs.Int.{int_rem_euclid}

-- the number divides the year
abbrev pub divides : ℕ → ℤ → Bool
divides n year = unsigned_abs year % n == 0

-- a leap year: 400 divides it, or 4 divides it and 100 does not
unfoldable pub is_leap : ℤ → Bool
is_leap year = divides 400 year || (divides 4 year && not (divides 100 year))

-- how many days a year has
unfoldable pub year_length : ℤ → ℕ
year_length year = if is_leap year then 366 else 365

-- how many days a month has: April, June, September and November 30, February 28 or 29, the others
-- 31
unfoldable pub month_length : Bool → ℕ → ℕ
month_length leap month =
    if month == 2
    then (if leap then 29 else 28)
    else (if month == 4 || month == 6 || month == 9 || month == 11 then 30 else 31)

-- the days of the first months of a year
unfoldable pub months_length : Bool → ℕ → ℕ
months_length leap zero = 0
months_length leap (suc months) = months_length leap months + month_length leap (suc months)

-- the days of this many years from 1970 on
unfoldable pub years_length_from_1970 : ℕ → ℕ
years_length_from_1970 zero = 0
years_length_from_1970 (suc years) =
    years_length_from_1970 years + year_length (pos 1970 +ℤ pos years)

-- the days of this many years before 1970
unfoldable pub years_length_before_1970 : ℕ → ℕ
years_length_before_1970 zero = 0
years_length_before_1970 (suc years) =
    years_length_before_1970 years + year_length (pos 1969 -ℤ pos years)

-- the number of the day that is this many years after January 1st of 1970, or before it
abbrev pub first_day_after : ℤ → ℤ
first_day_after (pos years) = pos (years_length_from_1970 years)
first_day_after (negsuc years) = neg_ℤ (pos (years_length_before_1970 (suc years)))

-- the number of January 1st, where 1970-01-01 has the number 0
unfoldable pub first_day : ℤ → ℤ
first_day year = first_day_after (year -ℤ pos 1970)

-- the number of a day
unfoldable pub day_number : ℤ → ℕ → ℕ → ℤ
day_number year month month_day = first_day year +ℤ pos (months_length (is_leap year) (month - 1))
    +ℤ pos month_day -ℤ pos 1

-- the week day of a day, where Sunday is 0: 1970-01-01 is a Thursday
unfoldable pub week_day_of : ℤ → ℤ
week_day_of day = int_rem_euclid (day +ℤ pos 4) (pos 7)

-- the year, the month and the day of the month make up the day
pub record IsDateOf (day year : ℤ) (month month_day : ℕ) : Type 0 where
  pub month_is : (1 ≤ month) × (month ≤ 12)
  pub month_day_is : (1 ≤ month_day) × (month_day ≤ month_length (is_leap year) month)
  pub day_is : day_number year month month_day ≡ day

-- a day of a year, by its month and its day of the month
pub record IsDay (year : ℤ) (month month_day : ℕ) : Type 0 where
  pub month_is : (1 ≤ month) × (month ≤ 12)
  pub month_day_is : (1 ≤ month_day) × (month_day ≤ month_length (is_leap year) month)

-- the first date comes before the second: by year, by month, by day
abbrev pub IsEarlierDate : ℤ → ℕ → ℕ → ℤ → ℕ → ℕ → Type 0
IsEarlierDate y m d y' m' d' = (y <ℤ y') ⊎ ((y ≡ y') × ((m < m') ⊎ ((m ≡ m') × (d < d'))))
