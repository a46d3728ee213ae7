-- What is left of the pattern shows what is left of the text.
use Rattle.std.proofs.Common.{◌-◌, length}
use Rattle.tz_format.proofs.Guessed.{IsReadUpTo}
use Rattle.tz_format.proofs.read.read_parts.Given as goal

abbrev pub decreases-loop-position : goal.decreases-loop-position
decreases-loop-position l = length l.pattern - l.position

abbrev pub invariant-loop-position : goal.invariant-loop-position
invariant-loop-position l = IsReadUpTo l.pattern l.text l.position l.left l.guess.values l.guess.shown
