-- Days that have a number of their own are at one day, whatever the week day.
use Rattle.tz_rule.proofs.Common.{arith, year_day_of}
use Rattle.tz_rule.proofs.SpansOfDays.{never_later}
use Rattle.tz_rule.proofs.timezone.rule_day.RuleDay.span.Goals as goal

pub returns-in-Julian1WithoutLeap-clause-value : goal.returns-in-Julian1WithoutLeap-clause-value
unfolding year_day_of
returns-in-Julian1WithoutLeap-clause-value c =
    λ w below. rw c.in-Julian1WithoutLeap.is (omega (arith, never_later w below, c.year_day.ensures.value))

pub returns-in-Julian0WithLeap-clause-value : goal.returns-in-Julian0WithLeap-clause-value
unfolding year_day_of
returns-in-Julian0WithLeap-clause-value c =
    λ w below. rw c.in-Julian0WithLeap.is (omega (arith, never_later w below, c.get.ensures.value))
