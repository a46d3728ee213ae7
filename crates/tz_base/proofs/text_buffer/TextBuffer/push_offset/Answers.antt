-- By the sign of the offset.
use Rattle.std.proofs.Common.{arith, refl, ◌≡◌, ◌++◌, ap, pos, append_assoc}
use Rattle.std.proofs.lemmas.Int.{ints, to_z-of_z}
use mir.Syntax.{w32}
use Rattle.tz_base.specs.PrintedText.{offset_text}
use Rattle.tz_base.proofs.text_buffer.TextBuffer.push_offset.Goals as goal

pub returns-then-ut_offset-eq0-clause-text : goal.returns-then-ut_offset-eq0-clause-text
unfolding offset_text
returns-then-ut_offset-eq0-clause-text c =
    let zero : c.args.ut_offset ≡ pos 0 = omega (arith, ints) in
    rw (c.push.ensures.text, zero) refl

pub returns-else-ut_offset-eq0-clause-text : goal.returns-else-ut_offset-eq0-clause-text
returns-else-ut_offset-eq0-clause-text c =
    let same = to_z-of_z w32 c.args.ut_offset c.ranges.ut_offset in
    let sign = rw same at c.sign_of.ensures.text in
    rw (
      c.push_duration.ensures.text,
      c.push-else-ut_offset-eq0.ensures.text,
      c.unsigned_abs.ensures.value,
      same,
      append_assoc,
    ) (ap (λ text. c.args.self.now ++ text) sign)
