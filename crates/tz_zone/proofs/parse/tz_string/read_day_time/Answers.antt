use Rattle.tz_zone.proofs.Common.{inr, inl}
use Rattle.tz_zone.proofs.QuestionMarkExits.{exit}
use Rattle.tz_zone.proofs.parse.tz_string.read_day_time.Goals as goal

pub returns-in_err-time : goal.returns-in_err-time
returns-in_err-time c =
    let sign = c.read_day_time_sign-minus in
    exit _ _ c.in_err-time.field-0.0 _ c.from_residual.ensures.1
    (sign.result.0, sign.result.1.now, sign.ensures, inl c.in_err-time.ensures)

pub returns-in_err-check_day_time : goal.returns-in_err-check_day_time
returns-in_err-check_day_time c =
    let sign = c.read_day_time_sign-minus in
    let read = c.in_ok-time in
    let e = c.in_err-check_day_time.field-0.0 in
    exit _ _ e _ c.from_residual-in_err-check_day_time.ensures.1 (
      sign.result.0,
      sign.result.1.now,
      sign.ensures,
      inr
          (read.time, read.rest.now, read.ensures.0, c.in_err-check_day_time.ensures),
    )
