-- What contracts see of a week day of a month. (POSIX.1-2017, Base Definitions, 8.3: Mm.w.d.)
use Rattle.std.specs.Prelude.{ℕ, ◌≤◌}
use Rattle.tz_base.specs.declared.error.TransitionRuleError.{TransitionRuleError}
use Rattle.tz_base.specs.declared.error.TransitionRuleError.TheVariants.{InvalidRuleDayMonth, InvalidRuleDayWeek, InvalidRuleDayWeekDay}

pub record MonthWeek : Type 0 where
  pub month : ℕ
  pub week : ℕ
  pub week_day : ℕ

abbrev pub month_week : ℕ → ℕ → ℕ → MonthWeek
month_week month week week_day = record { month = month; week = week; week_day = week_day }

abbrev pub IsRuleMonth : ℕ → Type 0
IsRuleMonth month = (1 ≤ month) × (month ≤ 12)

-- the fifth week is the last
abbrev pub IsRuleWeek : ℕ → Type 0
IsRuleWeek week = (1 ≤ week) × (week ≤ 5)

-- Sunday is 0
abbrev pub IsRuleWeekDay : ℕ → Type 0
IsRuleWeekDay week_day = week_day ≤ 6

-- months from 1 to 12, weeks from 1 to 5, week days from Sunday = 0 to 6
pub record IsMonthWeek (d : MonthWeek) : Type 0 where
  pub month_is : IsRuleMonth d.month
  pub week_is : IsRuleWeek d.week
  pub week_day_is : IsRuleWeekDay d.week_day

-- the fault that is named if there are several: the month's, the week's, and then the week day's
abbrev pub IsFirstMonthWeekFault : MonthWeek → TransitionRuleError → Type 0
IsFirstMonthWeekFault d InvalidRuleDayMonth = ¬ IsRuleMonth d.month
IsFirstMonthWeekFault d InvalidRuleDayWeek = IsRuleMonth d.month × ¬ IsRuleWeek d.week
IsFirstMonthWeekFault d InvalidRuleDayWeekDay = IsRuleMonth d.month × IsRuleWeek d.week
    × ¬ IsRuleWeekDay d.week_day
IsFirstMonthWeekFault d _ = ⊥
