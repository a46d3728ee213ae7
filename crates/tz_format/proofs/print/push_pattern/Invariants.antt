-- What is left of the pattern prints what is left of the text.
use Rattle.std.proofs.Common.{◌-◌, length}
use Rattle.tz_format.specs.Shown.{shown_of}
use Rattle.tz_format.proofs.Printed.{IsPrintedUpTo}
use Rattle.tz_format.proofs.print.push_pattern.Given as goal

abbrev pub decreases-loop-position : goal.decreases-loop-position
decreases-loop-position l = length l.pattern - l.position

abbrev pub invariant-loop-position : goal.invariant-loop-position
invariant-loop-position l = IsPrintedUpTo l.pattern (shown_of l.moment) l.position l.line
