-- The year and the two parts, one after the other.
use Rattle.std.proofs.Common.{arith, rules, append_assoc}
use Rattle.std.proofs.lemmas.Int.{to_z-of_z}
use mir.Syntax.{w32}
use Rattle.tz_base.proofs.CivilReadings.{month_length-le}
use Rattle.tz.specs.PrintedText.{date_text}
use Rattle.tz_civil.proofs.date.text.line_of.Goals as goal

pub push_part-requires-2-clause-below : goal.push_part-requires-2-clause-below
push_part-requires-2-clause-below c = omega (arith, month_length-le, c.date.invariant.day_is.month_day_is)

pub returns : goal.returns
unfolding date_text
returns c =
    rw (
      ← c.date.view_is,
      c.push_part-2.ensures.text,
      c.push_part.ensures.text,
      c.push_year.ensures.text,
      to_z-of_z w32 c.date.inside.year (search rules),
      c.new-line.ensures,
      append_assoc,
    )
