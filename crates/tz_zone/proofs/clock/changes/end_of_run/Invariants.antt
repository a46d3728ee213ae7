-- All positions so far have the type.
use Rattle.tz_zone.proofs.Common.{ℕ, length, ◌<◌, zone_of_data, ◌-◌, ◌≤◌, IsTypeOfLast}
use Rattle.tz_zone.proofs.clock.changes.end_of_run.Given as goal

abbrev pub invariant-loop-end : goal.invariant-loop-end
invariant-loop-end l = record {
  from : l.position ≤ l.end;
  inside : l.end < length l.zone.transitions.now;
  types : (i : ℕ) → l.position ≤ i → i ≤ l.end → IsTypeOfLast (zone_of_data l.zone) i l.local_time_type;
}

abbrev pub decreases-loop-end : goal.decreases-loop-end
decreases-loop-end l = length l.zone.transitions.now - l.end
