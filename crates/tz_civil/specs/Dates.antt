-- Dates of the proleptic Gregorian calendar, in years of 32 bits. (RFC 3339, section 5.6:
-- full-date.)
use Rattle.std.specs.Prelude.{◌≡◌, ℕ, ℤ, FitsSigned}
use Rattle.std.specs.Int.{w32}
use Rattle.tz_base.specs.Days.{IsDay, day_number}
use Rattle.tz_base.specs.Fields.{fields_of, IsFirstFault}
use Rattle.tz_base.specs.declared.fields.Fields.{Fields}
use Rattle.tz_base.specs.declared.error.DateTimeError.{DateTimeError}
use Rattle.tz_base.specs.declared.error.TzError.{TzError}
use Rattle.tz_base.specs.declared.error.TzError.TheVariants as faults

-- what contracts see of a date
pub record Date : Type 0 where
  pub year : ℤ
  pub month : ℕ
  pub month_day : ℕ

abbrev pub date_of : ℤ → ℕ → ℕ → Date
date_of year month month_day = record { year = year; month = month; month_day = month_day }

-- the date is in the calendar, in a year of 32 bits
pub record IsDate (d : Date) : Type 0 where
  pub year_is : FitsSigned w32 d.year
  pub day_is : IsDay d.year d.month d.month_day

-- the number of the day, where 1970-01-01 has the number 0
abbrev pub number_of : Date → ℤ
number_of d = day_number d.year d.month d.month_day

-- the fields of the date at midnight
abbrev pub midnight_of : Date → Fields
midnight_of d = fields_of d.year d.month d.month_day 0 0 0 0

-- why there is no such date: the first fault of the fields at midnight
abbrev pub IsDateFault : Date → TzError → Type 0
IsDateFault d e = (fault : DateTimeError) × (e ≡ faults.DateTime fault)
    × IsFirstFault (midnight_of d) fault
