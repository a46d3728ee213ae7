use Rattle.tz_zone.proofs.Common.{inr, inl}
use Rattle.tz_zone.proofs.QuestionMarkExits.{exit}
use Rattle.tz_zone.proofs.parse.tz_string.read_offset.Goals as goal

pub returns-in_err-offset : goal.returns-in_err-offset
returns-in_err-offset c =
    let sign = c.read_sign-minus in
    exit _ _ c.in_err-offset.field-0.0 _ c.from_residual.ensures.1
    (sign.result.0, sign.result.1.now, sign.ensures, inl c.in_err-offset.ensures)

pub returns-in_err-check_offset : goal.returns-in_err-check_offset
returns-in_err-check_offset c =
    let sign = c.read_sign-minus in
    let read = c.in_ok-offset in
    let e = c.in_err-check_offset.field-0.0 in
    exit _ _ e _ c.from_residual-in_err-check_offset.ensures.1 (
      sign.result.0,
      sign.result.1.now,
      sign.ensures,
      inr
          (read.offset, read.rest.now, read.ensures.0, c.in_err-check_offset.ensures),
    )
