use Rattle.tz_zone.proofs.Common.{ℕ, inr, inl, subst, List, IsRuleText}
use Rattle.tz_zone.proofs.QuestionMarkExits.{exit}
use Rattle.tz_zone.proofs.parse.tz_string.read_switches.Goals as goal

pub returns-in-Err : goal.returns-in-Err
returns-in-Err c = inl c.in-Err.ensures

pub returns-in_err-end-in-Ok : goal.returns-in_err-end-in-Ok
returns-in_err-end-in-Ok c =
    let comma = c.in_ok-end_text-in-Ok in
    exit _ _ c.in_err-end-in-Ok.field-0.0 _ c.from_residual-in_err-end-in-Ok.ensures.1
    (inr (
      c.in-Ok.start,
      c.in-Ok.rest.now,
      c.in-Ok.ensures.0,
      inr
          (comma.end_text.now, comma.ensures, c.in_err-end-in-Ok.ensures),
    ))

pub returns-in_ok-end-in-Ok : goal.returns-in_ok-end-in-Ok
returns-in_ok-end-in-Ok c =
    let comma = c.in_ok-end_text-in-Ok in
    let end = c.in_ok-end-in-Ok in
    let P : List ℕ → Type 0 = λ rest. IsRuleText c.args.extended c.args.text.now c.in-Ok.start rest in
    ((comma.end_text.now, subst P comma.ensures c.in-Ok.ensures.0, end.ensures.0), c.in-Ok.ensures.1, end.ensures.1)
