-- The seven fields of a date time: which are valid, which fault is named, and their reading.
use Rattle.std.specs.Prelude.{◌≡◌, ℕ, ◌+◌, ◌*◌, ◌<◌, ◌≤◌, ◌⊎◌, ℤ, pos, negsuc, ◌+ℤ◌, ◌*ℤ◌, ◌≤ℤ◌}
use Rattle.tz_base.specs.Days.{is_leap, month_length, day_number}
use Rattle.tz_base.specs.declared.fields.Fields.{Fields}
use Rattle.tz_base.specs.declared.error.DateTimeError.{DateTimeError}
use Rattle.tz_base.specs.declared.error.DateTimeError.TheVariants.{InvalidMonth, InvalidMonthDay, InvalidHour, InvalidMinute, InvalidSecond, InvalidNanoseconds}

-- the fields with these values, in the order in which calls take them
abbrev pub fields_of : ℤ → ℕ → ℕ → ℕ → ℕ → ℕ → ℕ → Fields
fields_of year month month_day hour minute second nanoseconds =
    record {
      year = year;
      month = month;
      month_day = month_day;
      hour = hour;
      minute = minute;
      second = second;
      nanoseconds = nanoseconds;
    }

-- the month is one of twelve
abbrev pub IsMonth : ℕ → Type 0
IsMonth month = (1 ≤ month) × (month ≤ 12)

-- some month has the day
abbrev pub IsMonthDay : ℕ → Type 0
IsMonthDay day = (1 ≤ day) × (day ≤ 31)

-- each field is in its range, but the day may be past the end of its month; second 60 is a second
-- of any minute
pub record IsInRange (f : Fields) : Type 0 where
  pub month : IsMonth f.month
  pub month_day : IsMonthDay f.month_day
  pub hour : f.hour ≤ 23
  pub minute : f.minute ≤ 59
  pub second : f.second ≤ 60
  pub nanoseconds : f.nanoseconds < 1000000000

-- how many days the month of the fields has
abbrev pub length_of_month : Fields → ℕ
length_of_month f = month_length (is_leap f.year) f.month

-- fields of a date time
pub record IsValid (f : Fields) : Type 0 where
  pub in_range : IsInRange f
  pub in_month : f.month_day ≤ length_of_month f

-- the fault that is named if there are several: the first in this order, and last of all a day past
-- the end of its month
abbrev pub IsFirstFault : Fields → DateTimeError → Type 0
IsFirstFault f InvalidMonth = ¬ IsMonth f.month
IsFirstFault f InvalidMonthDay = IsMonth f.month
    × (¬ IsMonthDay f.month_day ⊎ (IsInRange f × (length_of_month f < f.month_day)))
IsFirstFault f InvalidHour = IsMonth f.month × IsMonthDay f.month_day × (23 < f.hour)
IsFirstFault f InvalidMinute = IsMonth f.month × IsMonthDay f.month_day × (f.hour ≤ 23)
    × (59 < f.minute)
IsFirstFault f InvalidSecond = IsMonth f.month × IsMonthDay f.month_day × (f.hour ≤ 23)
    × (f.minute ≤ 59) × (60 < f.second)
IsFirstFault f InvalidNanoseconds = IsMonth f.month × IsMonthDay f.month_day × (f.hour ≤ 23)
    × (f.minute ≤ 59) × (f.second ≤ 60) × (1000000000 ≤ f.nanoseconds)

-- the number of the day of the fields
abbrev pub day_of : Fields → ℤ
day_of f = day_number f.year f.month f.month_day

-- the seconds from 1970-01-01 00:00:00 to the fields; second 60 reads as the next minute's first
-- second
abbrev pub reading : Fields → ℤ
reading f = pos 86400 *ℤ day_of f +ℤ pos (3600 * f.hour + 60 * f.minute + f.second)

-- the fields that a clock shows at the reading: valid ones with a second below 60 and these
-- nanoseconds
pub record IsCivil (x : ℤ) (nanoseconds : ℕ) (f : Fields) : Type 0 where
  pub valid : IsValid f
  pub below_60 : f.second < 60
  pub reads : reading f ≡ x
  pub nanoseconds_are : f.nanoseconds ≡ nanoseconds

-- the reading is in a year of 32 bits
abbrev pub IsReading : ℤ → Type 0
IsReading x = (negsuc 67768100567971199 ≤ℤ x) × (x ≤ℤ pos 67767976233532799)

-- nanoseconds from 1970-01-01 00:00:00 on
abbrev pub total_nanoseconds_of : ℤ → ℕ → ℤ
total_nanoseconds_of seconds nanoseconds = pos 1000000000 *ℤ seconds +ℤ pos nanoseconds

-- the seconds are the floor of the total, and the nanoseconds what is over
pub record IsTimespec (total seconds : ℤ) (nanoseconds : ℕ) : Type 0 where
  pub whole : total_nanoseconds_of seconds nanoseconds ≡ total
  pub part : nanoseconds < 1000000000
