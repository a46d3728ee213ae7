-- The two digits are ASCII bytes.
use Rattle.tz_base.proofs.PrintedDigits.{two_digits-ascii}
use Rattle.tz_base.proofs.text_buffer.TextBuffer.push_two_digits.Goals as goal

pub push_ascii-requires-clause-ascii : goal.push_ascii-requires-clause-ascii
push_ascii-requires-clause-ascii c = rw c.pair_of.ensures (two_digits-ascii c.args.number c.requires.below)
