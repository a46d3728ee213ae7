-- Which day a rule day is in a year. (POSIX.1-2017, Base Definitions, 8.3: Jn, n and Mm.w.d; 365 in
-- a year of 365 days as in tz-rs.)
use Rattle.std.specs.Prelude.{ℕ, zero, suc, ◌-◌, ◌==◌, ◌&&◌, not, Bool, ℤ, pos, ◌+ℤ◌, List, [], ◌∷◌, filter, length, slice_index_or, if◌then◌else◌}
use Rattle.std.specs.Ordering.{int_eq}
use Rattle.tz_base.specs.Days.{is_leap, year_length, month_length, first_day, day_number, week_day_of}
use Rattle.tz_rule.specs.RuleDayNumbers.{IsJulianDay, IsZeroBasedDay}
use Rattle.tz_rule.specs.MonthWeek.{IsMonthWeek}
use Rattle.tz_rule.specs.declared.timezone.rule_day.RuleDay.{RuleDay}
use Rattle.tz_rule.specs.declared.timezone.rule_day.RuleDay.TheVariants.{Julian1WithoutLeap, Julian0WithLeap, MonthWeekDay}

-- a day that the types of rule days allow
abbrev pub IsRuleDay : RuleDay → Type 0
IsRuleDay (Julian1WithoutLeap n) = IsJulianDay n
IsRuleDay (Julian0WithLeap n) = IsZeroBasedDay n
IsRuleDay (MonthWeekDay d) = IsMonthWeek d

-- this many days from a day on
unfoldable pub days_from : ℤ → ℕ → List ℤ
days_from day zero = []
days_from day (suc n) = day ∷ days_from (day +ℤ pos 1) n

-- the days of a year, and those of a month of it
abbrev pub days_of_year : ℤ → List ℤ
days_of_year year = days_from (first_day year) (year_length year)

abbrev pub days_of_month : ℤ → ℕ → List ℤ
days_of_month year month = days_from (day_number year month 1) (month_length (is_leap year) month)

-- February 29th of the year
abbrev pub is_leap_day : ℤ → ℤ → Bool
is_leap_day year day = is_leap year && int_eq day (day_number year 2 29)

-- the day at an index of a list; the first day of all if the list is shorter
abbrev pub day_at : List ℤ → ℕ → ℤ
day_at days index = slice_index_or days index (pos 0)

-- the days of the month that have the week day
abbrev pub week_days_of_month : ℤ → ℕ → ℕ → List ℤ
week_days_of_month year month week_day =
    filter (λ day. int_eq (week_day_of day) (pos week_day)) (days_of_month year month)

-- the number of the day that a rule day is in a year
unfoldable pub rule_day : RuleDay → ℤ → ℤ
rule_day (Julian1WithoutLeap n) year =
    day_at (filter (λ day. not (is_leap_day year day)) (days_of_year year)) (n - 1)
rule_day (Julian0WithLeap n) year = first_day year +ℤ pos n
rule_day (MonthWeekDay d) year =
    let days = week_days_of_month year d.month d.week_day in
    day_at days (if d.week == 5 then length days - 1 else d.week - 1)
