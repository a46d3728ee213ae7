-- All positions so far have the type.
use Rattle.tz_zone.proofs.Common.{ℕ, ◌<◌, zone_of_data, ◌≤◌, IsTypeOfLast}
use Rattle.tz_zone.proofs.clock.changes.start_of_run.Given as goal

abbrev pub invariant-loop-start : goal.invariant-loop-start
invariant-loop-start l = record {
  some : 0 < l.start;
  up_to : l.start ≤ l.position;
  types : (i : ℕ) → l.start ≤ i → i ≤ l.position → IsTypeOfLast (zone_of_data l.zone) i l.local_time_type;
}

abbrev pub decreases-loop-start : goal.decreases-loop-start
decreases-loop-start l = l.start
