-- The leap second at the index is not reached.
use Rattle.tz_zone.proofs.Common.{length, ◌<◌, ◌≤◌, LeapSecond, IsReached}
use Rattle.tz_zone.proofs.leap.leap_time.after_last_reached.Given as goal

abbrev pub invariant-loop-index : goal.invariant-loop-index
invariant-loop-index l = record {
  within : l.index ≤ length l.leap_seconds;
  ahead : l.index < length l.leap_seconds → ¬ ((x : LeapSecond) × IsReached l.leap_seconds l.index x l.unix_time);
}

abbrev pub decreases-loop-index : goal.decreases-loop-index
decreases-loop-index l = l.index
