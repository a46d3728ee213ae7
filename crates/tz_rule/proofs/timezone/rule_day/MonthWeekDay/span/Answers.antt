-- The day in the month is added to the days before the month.
use Rattle.tz_rule.proofs.Common.{arith, ◌≤◌, year_day_of, month_length-ge, month_length-le, week_day_in_month}
use Rattle.tz_rule.proofs.SpansOfDays.{days_later-is}
use Rattle.tz_rule.proofs.timezone.rule_day.MonthWeekDay.span.Goals as goal

pub least_day-requires-clause-days : goal.least_day-requires-clause-days
least_day-requires-clause-days c = (
  omega (arith, c.days_of_month-days.ensures, month_length-ge c.args.leap c.self.inside.month),
  omega (arith, c.days_of_month-days.ensures, month_length-le c.args.leap c.self.inside.month),
)

pub returns-clause-value : goal.returns-clause-value
unfolding year_day_of week_day_in_month
returns-clause-value c = λ w below.
    let d = c.self.inside in
    let low : 28 ≤ c.days_of_month-days.result =
    omega (arith, c.days_of_month-days.ensures, month_length-ge c.args.leap d.month) in
    let high : c.days_of_month-days.result ≤ 31 =
    omega (arith, c.days_of_month-days.ensures, month_length-le c.args.leap d.month) in
    let before = c.days_before_month-before.result in
    let days = c.days_of_month-days.result in
    let is = days_later-is w d.week_day before days d.week below c.self.invariant.week_day_is low high
    c.self.invariant.week_is.0 c.self.invariant.week_is.1
    (omega (arith, c.days_before_month-before.ensures.bound, low, high)) in
    let code = rw (← c.least_day.ensures) at is in
    rw (← c.self.view_is, ← c.days_of_month-days.ensures, ← c.days_before_month-before.ensures.value) code
