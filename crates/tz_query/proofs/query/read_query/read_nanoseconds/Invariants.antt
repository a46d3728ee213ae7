-- The first bytes are zeros.
use Rattle.tz_query.proofs.Common.{◌≡◌, ◌++◌, length, drop, replicate}
use Rattle.tz_query.proofs.query.read_query.read_nanoseconds.Given as goal

abbrev pub invariant-loop-index : goal.invariant-loop-index
invariant-loop-index l = (length l.digits ≡ 9) × (l.digits ≡ replicate l.index 48 ++ drop l.index l.initial.digits)
