-- Faults of a month, a week and a week day.
use Rattle.tz_zone.proofs.Common.{ℕ, refl, inr, inl, List, ◌∷◌, TzError, IsNumber, IsMonthWeekText, dot, InvalidRuleDayMonth, InvalidRuleDayWeek, InvalidRuleDayWeekDay, IsDayNumberFault, IsMonthWeekDayFault, IsRuleWeek, IsRuleWeekDay, MonthWeek, TransitionRuleError, IsFirstMonthWeekFault}
use Rattle.tz_base.specs.declared.error.TzError.TheVariants.{TransitionRule}

pub week_fails : (text : List ℕ) (month : ℕ) (week : List ℕ) (e : TzError) → IsNumber text month (dot ∷ week)
    → IsDayNumberFault 8 IsRuleWeek InvalidRuleDayWeek week e → IsMonthWeekDayFault text e
week_fails text month week e month_is fault = inr (month, dot ∷ week, month_is, inr (week, refl, inl fault))

pub week_day_fails : (text : List ℕ) (month : ℕ) (week : List ℕ) (n : ℕ) (week_day : List ℕ) (e : TzError)
    → IsNumber text month (dot ∷ week) → IsNumber week n (dot ∷ week_day)
    → IsDayNumberFault 8 IsRuleWeekDay InvalidRuleDayWeekDay week_day e → IsMonthWeekDayFault text e
week_day_fails text month week n week_day e month_is week_is fault =
    inr (month, dot ∷ week, month_is, inr (week, refl, inr (n, dot ∷ week_day, week_is, inr (week_day, refl, fault))))

pub month_week_fails : (text : List ℕ) (d : MonthWeek) (rest : List ℕ) (f : TransitionRuleError)
    → IsMonthWeekText text d rest → IsFirstMonthWeekFault d f → IsMonthWeekDayFault text (TransitionRule f)
month_week_fails text d rest InvalidRuleDayMonth t fault = inl (inr (refl, (d.month, dot ∷ t.0, t.2, fault)))
month_week_fails text d rest InvalidRuleDayWeek t fault =
    week_fails text d.month t.0 _ t.2 (inr (refl, (d.week, dot ∷ t.1, t.3, fault.1)))
month_week_fails text d rest InvalidRuleDayWeekDay t fault =
    week_day_fails text d.month t.0 d.week t.1 _ t.2 t.3 (inr (refl, (d.week_day, rest, t.4, fault.2)))
month_week_fails text d rest _ t fault = absurd fault
