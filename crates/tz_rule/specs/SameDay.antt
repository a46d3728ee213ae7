-- Equality of rule days, as a test of all their parts.
use Rattle.std.specs.Prelude.{◌≡◌, ◌==◌, ◌&&◌, Bool, false}
use Rattle.std.proofs.Common.{ap, Decides}
use Rattle.std.proofs.lemmas.Bool.{false≢true}
use Rattle.std.proofs.lemmas.Bool.Decides.{Decides-eqb, Decides-like, Decides-and}
use Rattle.tz_rule.specs.MonthWeek.{MonthWeek, month_week}
use Rattle.tz_rule.specs.declared.timezone.rule_day.RuleDay.{RuleDay}
use Rattle.tz_rule.specs.declared.timezone.rule_day.RuleDay.TheVariants.{Julian1WithoutLeap, Julian0WithLeap, MonthWeekDay}

abbrev pub same_month_week : MonthWeek → MonthWeek → Bool
same_month_week a b = a.month == b.month && (a.week == b.week && a.week_day == b.week_day)

abbrev pub same_day : RuleDay → RuleDay → Bool
same_day (Julian1WithoutLeap a) (Julian1WithoutLeap b) = a == b
same_day (Julian1WithoutLeap a) (Julian0WithLeap b) = false
same_day (Julian1WithoutLeap a) (MonthWeekDay b) = false
same_day (Julian0WithLeap a) (Julian1WithoutLeap b) = false
same_day (Julian0WithLeap a) (Julian0WithLeap b) = a == b
same_day (Julian0WithLeap a) (MonthWeekDay b) = false
same_day (MonthWeekDay a) (Julian1WithoutLeap b) = false
same_day (MonthWeekDay a) (Julian0WithLeap b) = false
same_day (MonthWeekDay a) (MonthWeekDay b) = same_month_week a b

Decides-same_month_week : (a b : MonthWeek) → Decides (same_month_week a b) (a ≡ b)
Decides-same_month_week a b =
    Decides-like (same_month_week a b)
    (λ h. same_parts h.0 h.1.0 h.1.1)
    (λ e. (ap (λ d. d.month) e, (ap (λ d. d.week) e, ap (λ d. d.week_day) e)))
    (Decides-and (a.month == b.month) (a.week == b.week && a.week_day == b.week_day)
    (Decides-eqb a.month b.month)
    (Decides-and (a.week == b.week) (a.week_day == b.week_day) (Decides-eqb a.week b.week)
    (Decides-eqb a.week_day b.week_day)))
  where
    same_parts : a.month ≡ b.month → a.week ≡ b.week → a.week_day ≡ b.week_day → a ≡ b
    same_parts m w d = let same : month_week a.month a.week a.week_day
        ≡ month_week b.month b.week b.week_day = cc in same

-- equal rule days
pub Decides-same_day : (a b : RuleDay) → Decides (same_day a b) (a ≡ b)
Decides-same_day (Julian1WithoutLeap a) (Julian1WithoutLeap b) =
    Decides-like (a == b) (ap Julian1WithoutLeap) (λ e. cc) (Decides-eqb a b)
Decides-same_day (Julian1WithoutLeap a) (Julian0WithLeap b) = (λ h. absurd (false≢true h), λ e. cc)
Decides-same_day (Julian1WithoutLeap a) (MonthWeekDay b) = (λ h. absurd (false≢true h), λ e. cc)
Decides-same_day (Julian0WithLeap a) (Julian1WithoutLeap b) = (λ h. absurd (false≢true h), λ e. cc)
Decides-same_day (Julian0WithLeap a) (Julian0WithLeap b) =
    Decides-like (a == b) (ap Julian0WithLeap) (λ e. cc) (Decides-eqb a b)
Decides-same_day (Julian0WithLeap a) (MonthWeekDay b) = (λ h. absurd (false≢true h), λ e. cc)
Decides-same_day (MonthWeekDay a) (Julian1WithoutLeap b) = (λ h. absurd (false≢true h), λ e. cc)
Decides-same_day (MonthWeekDay a) (Julian0WithLeap b) = (λ h. absurd (false≢true h), λ e. cc)
Decides-same_day (MonthWeekDay a) (MonthWeekDay b) =
    Decides-like (same_month_week a b) (ap MonthWeekDay) (λ e. cc) (Decides-same_month_week a b)
