-- By the sign of the offset.
use Rattle.std.proofs.Common.{arith, sym}
use Rattle.std.proofs.lemmas.Int.{ints}
use Rattle.tz_base.proofs.PrintedDigits.{offset_text-negative, offset_text-positive}
use Rattle.tz_base.proofs.print.sign_of.Goals as goal

pub returns-then-ut_offset-lt0-clause-text : goal.returns-then-ut_offset-lt0-clause-text
returns-then-ut_offset-lt0-clause-text c = sym (offset_text-negative c.args.ut_offset (omega (arith, ints)))

pub returns-else-ut_offset-lt0-clause-text : goal.returns-else-ut_offset-lt0-clause-text
returns-else-ut_offset-lt0-clause-text c = sym (offset_text-positive c.args.ut_offset
    (omega (arith, ints, c.requires)))
