use Rattle.tz_zone.proofs.Common.{ℕ, refl, inr, inl, subst, ap, List, IsNumber, TzString, month_week}
use Rattle.tz_base.specs.declared.error.TzError.TheVariants.{TransitionRule}
use Rattle.tz_zone.proofs.QuestionMarkExits.{exit}
use Rattle.tz_zone.proofs.TextDays.{month_week_fails}
use Rattle.tz_zone.proofs.parse.tz_string.read_long_month_week_day.Goals as goal

pub returns-in_err-week : goal.returns-in_err-week
returns-in_err-week c =
    let month = c.in_ok-month in
    let f = c.in_err-week.field-0.0 in
    exit _ _ (TzString f) _ c.from_residual-in_err-week.ensures.1
    (inr (
      month.month,
      month.rest.now,
      month.ensures,
      inr (c.in_ok-rest.rest.now, c.in_ok-rest.ensures, inl (inl (f, refl, c.in_err-week.ensures))),
    ))

pub returns-in_err-rest-2 : goal.returns-in_err-rest-2
returns-in_err-rest-2 c =
    let month = c.in_ok-month in
    let week = c.in_ok-week in
    let missing = c.in_err-rest-2.ensures in
    exit _ _ (TzString c.in_err-rest-2.field-0.0) _ c.from_residual-in_err-rest-2.ensures.1
    (inr (
      month.month,
      month.rest.now,
      month.ensures,
      inr (
        c.in_ok-rest.rest.now,
        c.in_ok-rest.ensures,
        inr (week.week, week.rest.now, week.ensures, inl (missing.0, ap TzString missing.1, missing.2)),
      ),
    ))

pub returns-in_err-week_day : goal.returns-in_err-week_day
returns-in_err-week_day c =
    let month = c.in_ok-month in
    let week = c.in_ok-week in
    let f = c.in_err-week_day.field-0.0 in
    exit _ _ (TzString f) _ c.from_residual-in_err-week_day.ensures.1
    (inr (
      month.month,
      month.rest.now,
      month.ensures,
      inr (
        c.in_ok-rest.rest.now,
        c.in_ok-rest.ensures,
        inr (
          week.week,
          week.rest.now,
          week.ensures,
          inr (
            c.in_ok-rest-2.rest.now,
            c.in_ok-rest-2.ensures,
            inl (f, refl, c.in_err-week_day.ensures),
          ),
        ),
      ),
    ))

pub returns-in_err-new : goal.returns-in_err-new
returns-in_err-new c =
    let month = c.in_ok-month in
    let week = c.in_ok-week in
    let day = c.in_ok-week_day in
    let f = c.in_err-new.field-0.0 in
    let Month : List ℕ → Type 0 = λ rest. IsNumber c.args.text.now month.month rest in
    let Week : List ℕ → Type 0 = λ rest. IsNumber c.in_ok-rest.rest.now week.week rest in
    exit _ _ (TransitionRule f) _ c.from_residual-in_err-new.ensures.1
    (month_week_fails c.args.text.now (month_week month.month week.week day.week_day) day.rest.now f (
      c.in_ok-rest.rest.now,
      c.in_ok-rest-2.rest.now,
      subst Month c.in_ok-rest.ensures month.ensures,
      subst Week
          c.in_ok-rest-2.ensures week.ensures,
      day.ensures,
    )
    c.in_err-new.ensures.err)
