-- Days of the week and of the year, and weeks.
use Rattle.std.specs.Prelude.{ℕ, ◌+◌, ◌-◌, ◌/◌, ◌%◌, nat_lt, if◌then◌else◌, ℤ, pos, negsuc, ◌+ℤ◌, ◌-ℤ◌, unsigned_abs, suc}
use Rattle.tz_base.specs.declared.fields.Fields.{Fields}
use Rattle.tz_base.specs.Fields.{day_of}
use Rattle.tz_base.specs.Days.{first_day, week_day_of, year_length}

-- days since Sunday
abbrev pub week_day : Fields → ℕ
week_day f = unsigned_abs (week_day_of (day_of f))

-- days since Monday
abbrev pub days_since_monday : Fields → ℕ
days_since_monday f = (week_day f + 6) % 7

-- days since January 1st
abbrev pub year_day : Fields → ℕ
year_day f = unsigned_abs (day_of f -ℤ first_day f.year)

-- the week of the year, where weeks begin so many days before the date, and the days before the
-- first week of the year are in week 0
abbrev pub week_of_year : ℕ → ℕ → ℕ
week_of_year day since_first = (day + 7 - since_first) / 7

-- a week of ISO 8601: its year and its number
pub record Week : Type 0 where
  pub year : ℤ
  pub number : ℕ

-- the week whose Thursday is so many days after January 1st of a year, or before it: the week
-- belongs to the year of its Thursday, of which it has one of the first seven days in week 1
abbrev pub week_of_thursday : ℤ → ℤ → Week
week_of_thursday year (negsuc days) = record {
  year = year -ℤ pos 1;
  number = (year_length (year -ℤ pos 1) - suc days) / 7 + 1;
}
week_of_thursday year (pos days) =
    if nat_lt days (year_length year)
    then (record { year = year; number = days / 7 + 1 })
    else (record { year = year +ℤ pos 1; number = (days - year_length year) / 7 + 1 })

-- the week of a date, whose Thursday is three days after its Monday
unfoldable pub week_of : Fields → Week
week_of f = week_of_thursday f.year (pos (year_day f + 3) -ℤ pos (days_since_monday f))
