-- The parts of the date time in turn.
use Rattle.std.proofs.lemmas.Int.{to_z-of_z}
use Rattle.std.proofs.Common.{rules, append_assoc}
use mir.Syntax.{w32}
use Rattle.tz_base.proofs.PrintedDigits.{printed_parts}
use Rattle.tz_base.proofs.text_buffer.TextBuffer.push_parts.Goals as goal

pub returns-clause-text : goal.returns-clause-text
returns-clause-text c =
    let f = c.args.fields.now in
    rw (
      c.push_offset.ensures.text,
      c.push_nine_digits.ensures.text,
      c.push_ascii.ensures.text,
      c.middle_of.ensures.text,
      c.push_year.ensures.text,
      to_z-of_z w32 c.args.ut_offset c.ranges.ut_offset,
      to_z-of_z w32 f.year (search rules),
      printed_parts f c.args.ut_offset,
    )
    (simp append_assoc)
