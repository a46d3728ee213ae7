-- What is parsed is the text with a midnight after it.
use Rattle.std.proofs.Common.{ℕ, List, subst, inr}
use Rattle.tz.specs.DateTimeGrammar.{IsDateTimeText, IsDateTimeTextFault}
use Rattle.tz_civil.proofs.date.Date.parse.Goals as goal

pub returns-in-Ok-clause-ok : goal.returns-in-Ok-clause-ok
returns-in-Ok-clause-ok c = (
  c.if-text-gt-LONGEST.false,
  c.in-Ok.parsed,
  subst (λ (bytes : List ℕ). IsDateTimeText bytes c.in-Ok.parsed) c.with_midnight-line.ensures c.in-Ok.ensures.ok,
  rw c.local.ensures at c.of.ensures,
)

pub returns-in-Err-clause-err : goal.returns-in-Err-clause-err
returns-in-Err-clause-err c =
    inr (
      c.if-text-gt-LONGEST.false,
      c.in-Err.missing.expected,
      subst (λ (bytes : List ℕ). IsDateTimeTextFault bytes c.in-Err.missing) c.with_midnight-line.ensures
          c.in-Err.ensures.err,
      c.part_of_date.ensures,
    )
