use Rattle.tz_query.proofs.Common.{take, IsLine}
use Rattle.tz_query.proofs.query.read_query.after_line.Given as goal

abbrev pub invariant-loop-position : goal.invariant-loop-position
invariant-loop-position l = IsLine (take l.position l.bytes)
