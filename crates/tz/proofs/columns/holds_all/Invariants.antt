-- The instants before the index are in the segment.
use Rattle.tz.proofs.Common.{ℤ, ◌≤ℤ◌, ◌≡◌, ◌<◌, ℕ, Some, slice_get}
use Rattle.tz_zone.specs.Changes.{segment_of}
use Rattle.tz.proofs.columns.holds_all.Given as goal

abbrev pub invariant-loop-unix_time : goal.invariant-loop-unix_time
invariant-loop-unix_time l = (i : ℕ) (u : ℤ) → i < l.unix_time-index → slice_get l.unix_times i ≡ Some u
    → ((segment_of l.segment).from ≤ℤ u) × (u ≤ℤ (segment_of l.segment).last)
