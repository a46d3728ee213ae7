-- Types are equal if all that is stored is.
use Rattle.tz_rule.proofs.Common.{arith, ◌≡◌, ints, ◌∙◌, sym, to_z-of_z, rules, w32, Decides-beq, eqb-true}
use Rattle.tz_rule.proofs.KeptEquality.{same_type-shown}
use Rattle.tz_rule.proofs.timezone.local_time_type.LocalTimeType.is_same.Goals as goal
use Rattle.tz_rule.proofs.timezone.local_time_type.LocalTimeType.is_same.Goals.{then-self-other, else-self-other}

pub returns-then-self-other-2 : goal.returns-then-self-other-2
returns-then-self-other-2 c =
    let a = c.self.inside in
    let b = c.other.inside in
    elim c.if-self-other.branch [
      | then-self-other w ↦
          let same_bits = w.if-self-other.true in
          let offset : a.ut_offset ≡ b.ut_offset =
          omega (arith, ints, to_z-of_z w32 a.ut_offset (search rules), to_z-of_z w32 b.ut_offset (search rules)) in
          rw (c.word-then-self-other-2.ensures, c.word.ensures, ← c.self.view_is, ← c.other.view_is)
          (same_type-shown a b c.self.invariant c.other.invariant offset
          ((Decides-beq a.is_dst b.is_dst).0 (sym w.value-is ∙ c.if-self-other-2.true)))
      | else-self-other w ↦ absurd (w.if-self-other.false (eqb-true _ _ (sym w.value-is ∙ c.if-self-other-2.true)))
    ]
