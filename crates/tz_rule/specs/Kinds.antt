-- Kinds of years: in all years of one kind the days of the year fall on the same week days. (The
-- leap years and week days of the Gregorian calendar.)
use Rattle.std.specs.Prelude.{◌≡◌, ℕ, ◌+◌, ◌%◌, ◌<◌, Bool, ℤ, pos, ◌+ℤ◌, unsigned_abs, nat_lt, nat_le, if◌then◌else◌}
use Rattle.tz_base.specs.Days.{is_leap, year_length, first_day, week_day_of}

-- the week day of January 1st, from Sunday = 0
unfoldable pub week_day_of_year : ℤ → ℕ
week_day_of_year year = unsigned_abs (week_day_of (first_day year))

-- a kind's number: the week day of January 1st, and 7 more for a leap year
abbrev pub kind_of : Bool → ℕ → ℕ
kind_of leap week_day = (if leap then 7 + week_day else week_day)

-- the kind of a year, below 14
unfoldable pub year_kind : ℤ → ℕ
year_kind year = kind_of (is_leap year) (week_day_of_year year)

-- the years of the kind are leap
abbrev pub is_leap_kind : ℕ → Bool
is_leap_kind kind = nat_le 7 kind

-- the week day of their January 1st
abbrev pub week_day_of_kind : ℕ → ℕ
week_day_of_kind kind = kind % 7

-- Two years that follow one another are of one of 21 pair kinds, each for the seven week days of
-- the first year's January 1st: from 0 neither is leap, from 7 the second is, and from 14 the first
-- is.

-- the kind of the first year
unfoldable pub first_kind : ℕ → ℕ
first_kind pair = if nat_lt pair 14 then pair % 7 else 7 + pair % 7

-- the kind of the second year
unfoldable pub second_kind : ℕ → ℕ
second_kind pair = if nat_lt pair 7 then
    (pair + 1) % 7 else (if nat_lt pair 14 then 7 + (pair + 1) % 7 else (pair + 2) % 7)

-- the days of the first year
unfoldable pub first_days : ℕ → ℕ
first_days pair = if nat_lt pair 14 then 365 else 366

-- a year and the next one are of the pair kind
pub record IsPairOf (year : ℤ) (pair : ℕ) : Type 0 where
  pub below : pair < 21
  pub first_is : year_kind year ≡ first_kind pair
  pub second_is : year_kind (year +ℤ pos 1) ≡ second_kind pair
  pub days_are : year_length year ≡ first_days pair
