-- The least and the greatest offset of the types so far.
use Rattle.tz_zone.proofs.Common.{◌≡◌, ℕ, ◌<◌, ◌≤ℤ◌, Some, LocalTimeType, slice_get, IsOffsetOfTypes}
use Rattle.tz_zone.proofs.timezone.zone_checks.offsets_of_types.Given as goal

abbrev pub invariant-loop-index : goal.invariant-loop-index
invariant-loop-index l = record {
  of_types : IsOffsetOfTypes l.local_time_types l.least × IsOffsetOfTypes l.local_time_types l.greatest;
  between : (i : ℕ) (t : LocalTimeType) → i < l.index → slice_get l.local_time_types i ≡ Some t
      → (l.least ≤ℤ t.ut_offset) × (t.ut_offset ≤ℤ l.greatest);
}
