-- What calls answer of dates.
use Rattle.std.specs.Prelude.{◌≡◌, ◌⊎◌, ℕ, ℤ, FitsSigned}
use Rattle.std.specs.Int.{w32}
use Rattle.tz_base.specs.declared.error.TzError.{TzError}
use Rattle.tz_base.specs.declared.error.TzError.TheVariants as faults
use Rattle.tz_zone.specs.Table.{Zone}
use Rattle.tz_civil.specs.Dates.{Date, IsDate, IsDateFault, date_of, number_of}
use Rattle.tz_civil.specs.DayStarts.{IsSkippedDay, IsStartFault, IsStartOfDay}
use Rattle.tz_civil.specs.Steps.{IsMonthLater}
use Rattle.tz_civil.specs.WeekDates.{IsWeekDate}
use Rattle.tz_civil.specs.declared.date.week_dates.WeekDate.{WeekDate}
use Rattle.tz_c.specs.Codes.{code_of, no_date_time}
use Rattle.tz_c.specs.declared.dates.DateData.{DateData}

-- the date that is passed, or written
abbrev pub date_given : DateData → Date
date_given d = date_of d.year d.month d.month_day

-- the date begins at the instant that is written; or the clock skips it, or has no type at any
-- instant at which it could show it; or there is no such date
abbrev pub IsStartAnswer : Zone → Date → ℕ → ℤ → Type 0
IsStartAnswer z d code u =
    ((code ≡ 0) × IsDate d × IsStartOfDay z (number_of d) u)
    ⊎ ((code ≡ no_date_time) × IsDate d × IsSkippedDay z (number_of d))
    ⊎ ((e : TzError) × (code ≡ code_of e)
    × (IsDateFault d e ⊎ (IsDate d × IsStartFault z (number_of d) e)))

-- why no date is months later: there is no such date, or the year does not fit 32 bits
abbrev pub IsMonthsFault : Date → ℤ → TzError → Type 0
IsMonthsFault d months e =
    IsDateFault d e
    ⊎ ((e ≡ faults.OutOfRange) × IsDate d
    × ((year : ℤ) (month : ℕ) → IsMonthLater d months year month → ¬ FitsSigned w32 year))

-- the date is one, and has the week date
abbrev pub HasWeekDate : Date → WeekDate → Type 0
HasWeekDate d w = IsDate d × IsWeekDate (number_of d) w.year w.week w.week_day

-- why a date has no week date that is written: there is no such date, or the week's year does not
-- fit 32 bits
abbrev pub IsWeekDateFault : Date → TzError → Type 0
IsWeekDateFault d e =
    IsDateFault d e
    ⊎ ((e ≡ faults.OutOfRange) × IsDate d
    × ((year : ℤ) (week week_day : ℕ) → IsWeekDate (number_of d) year week week_day
    → ¬ FitsSigned w32 year))
