-- What the numbers of a day fail by is a fault of the day.
use Rattle.tz_zone.proofs.Common.{month_week}
use Rattle.tz_base.specs.declared.error.TzError.TheVariants.{TransitionRule}
use Rattle.tz_zone.proofs.QuestionMarkExits.{exit}
use Rattle.tz_zone.proofs.TextDays.{month_week_fails}
use Rattle.tz_zone.proofs.parse.tz_string.read_month_week_day.Goals as goal

pub returns-in_err-new-in-Some : goal.returns-in_err-new-in-Some
returns-in_err-new-in-Some c =
    let d = c.in-Some in
    let f = c.in_err-new-in-Some.field-0.0 in
    exit _ _ (TransitionRule f) _ c.from_residual.ensures.1
    (month_week_fails c.args.text.now (month_week d.month d.week d.week_day) d.rest.now f d.ensures
    c.in_err-new-in-Some.ensures.err)
