-- No index before has the type.
use Rattle.tz_c.proofs.Common.{◌<◌, ℕ, Some, slice_get, ◌≢◌}
use Rattle.tz_c.proofs.zones.index_in.Given as goal

abbrev pub invariant-loop-index : goal.invariant-loop-index
invariant-loop-index l = (k : ℕ) → k < l.index → slice_get l.types k ≢ Some l.local_time_type
