use Rattle.tz_zone.proofs.Common.{inr, inl}
use Rattle.tz_zone.proofs.QuestionMarkExits.{exit}
use Rattle.tz_zone.proofs.parse.tz_string.read_hms.Goals as goal

pub returns-in_err-minutes : goal.returns-in_err-minutes
returns-in_err-minutes c =
    let hours = c.in_ok-hours in
    let e = c.in_err-minutes.field-0.0 in
    exit _ _ e _ c.from_residual-in_err-minutes.ensures.1
    (inr (hours.hours, hours.rest.now, hours.ensures.0, inl c.in_err-minutes.ensures))

pub returns-in_err-seconds : goal.returns-in_err-seconds
returns-in_err-seconds c =
    let hours = c.in_ok-hours in
    let minutes = c.in_ok-minutes in
    let e = c.in_err-seconds.field-0.0 in
    exit _ _ e _ c.from_residual-in_err-seconds.ensures.1
    (inr (
      hours.hours,
      hours.rest.now,
      hours.ensures.0,
      inr (minutes.minutes, minutes.rest.now, minutes.ensures, c.in_err-seconds.ensures),
    ))
