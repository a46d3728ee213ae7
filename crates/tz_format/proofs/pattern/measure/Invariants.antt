-- What is left of the pattern determines what is found, beside the width so far.
use Rattle.std.proofs.Common.{◌-◌, length}
use Rattle.tz_format.proofs.Measured.{IsMeasuredUpTo}
use Rattle.tz_format.proofs.pattern.measure.Given as goal

abbrev pub decreases-loop-position : goal.decreases-loop-position
decreases-loop-position l = length l.pattern - l.position

abbrev pub invariant-loop-position : goal.invariant-loop-position
invariant-loop-position l = IsMeasuredUpTo l.pattern l.position l.width
