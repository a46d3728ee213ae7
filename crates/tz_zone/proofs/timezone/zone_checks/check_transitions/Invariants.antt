-- The transitions so far name types and rise.
use Rattle.tz_zone.proofs.Common.{ℕ, ◌<◌, HasTypeAtIndex, RisesAtIndex}
use Rattle.tz_zone.proofs.timezone.zone_checks.check_transitions.Given as goal

abbrev pub invariant-loop-i : goal.invariant-loop-i
invariant-loop-i l = (index : ℕ) → index < l.i → HasTypeAtIndex l.transitions l.types index
    × RisesAtIndex l.transitions index
