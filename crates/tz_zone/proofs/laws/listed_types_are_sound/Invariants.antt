-- The types so far are sound.
use Rattle.tz_zone.proofs.Common.{◌≡◌, ℕ, ◌<◌, Some, LocalTimeType, slice_get, FitsSigned, IsLocalTimeType}
use Rattle.std.specs.Int.{w32}
use Rattle.tz_zone.proofs.laws.listed_types_are_sound.Given as goal

abbrev pub invariant-loop-local_time_type : goal.invariant-loop-local_time_type
invariant-loop-local_time_type l =
    (i : ℕ) (t : LocalTimeType) → i < l.local_time_type-index → slice_get l.local_time_types i ≡ Some t
    → IsLocalTimeType t × FitsSigned w32 t.ut_offset
