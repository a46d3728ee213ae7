-- Rule days as numbers: the kind, a number of Julian days and zero-based days, and those of a week
-- day of a month. (POSIX.1-2017, 8.3: n, Jn, Mm.w.d.)
use Rattle.std.specs.Prelude.{◌≡◌, ℕ, zero, suc}
use Rattle.tz_rule.specs.MonthWeek.{MonthWeek, month_week}
use Rattle.tz_rule.specs.RuleDays.{IsRuleDay}
use Rattle.tz_rule.specs.declared.timezone.rule_day.DayData.TheInside.{Inside}
use Rattle.tz_rule.specs.declared.timezone.rule_day.RuleDay.{RuleDay}
use Rattle.tz_rule.specs.declared.timezone.rule_day.RuleDay.TheVariants.{Julian1WithoutLeap, Julian0WithLeap, MonthWeekDay}

-- the day of a kind: zero-based, Julian, or a week day of a month
abbrev pub day_of_kind : ℕ → ℕ → MonthWeek → RuleDay
day_of_kind zero number d = Julian0WithLeap number
day_of_kind (suc zero) number d = Julian1WithoutLeap number
day_of_kind (suc (suc kind)) number d = MonthWeekDay d

abbrev pub day_of : Inside → RuleDay
day_of d = day_of_kind d.kind d.number (month_week d.month d.week d.week_day)

-- the numbers of a day: those that its kind does not use are zero
abbrev pub data_of : RuleDay → Inside
data_of (Julian0WithLeap n) = record { number = n; kind = 0; month = 0; week = 0; week_day = 0 }
data_of (Julian1WithoutLeap n) = record { number = n; kind = 1; month = 0; week = 0; week_day = 0 }
data_of (MonthWeekDay d) = record {
  number = 0;
  kind = 2;
  month = d.month;
  week = d.week;
  week_day = d.week_day;
}

-- the numbers are those of a rule day
pub record IsDayData (d : Inside) : Type 0 where
  pub is_data : data_of (day_of d) ≡ d
  pub is_day : IsRuleDay (day_of d)
