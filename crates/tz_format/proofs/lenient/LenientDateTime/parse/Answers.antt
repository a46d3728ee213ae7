-- A text that has a fault is of no date time.
use Rattle.std.proofs.Common.{arith, refl, inr}
use Rattle.tz.proofs.UniqueTexts.{text_or_fault}
use Rattle.tz_format.proofs.lenient.LenientDateTime.parse.Goals as goal

pub returns-in-Ok-parse_whole-clause-ok : goal.returns-in-Ok-parse_whole-clause-ok
returns-in-Ok-parse_whole-clause-ok c = (
  record { local = c.in-Some.zoned.local.now; name = c.in-Some.zoned.name.now },
  c.in-Some.ensures,
  inr (
    (λ p is. text_or_fault _ p c.in-Err.error is c.in-Err.ensures.err),
    omega arith,
    c.in-Ok-parse_whole.ensures.ok,
  ),
  refl,
)

pub returns-in-Err-parse_whole-clause-err : goal.returns-in-Err-parse_whole-clause-err
returns-in-Err-parse_whole-clause-err c = (
  record { local = c.in-Some.zoned.local.now; name = c.in-Some.zoned.name.now },
  c.in-Some.ensures,
  c.in-Err.ensures.err,
  (λ short p is. text_or_fault _ p c.in-Err-parse_whole.field-0 is c.in-Err-parse_whole.ensures.err),
)
