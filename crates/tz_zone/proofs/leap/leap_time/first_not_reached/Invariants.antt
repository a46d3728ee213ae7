-- The index stays within the list.
use Rattle.tz_zone.proofs.Common.{length, ◌-◌, ◌≤◌}
use Rattle.tz_zone.proofs.leap.leap_time.first_not_reached.Given as goal

abbrev pub invariant-loop-index : goal.invariant-loop-index
invariant-loop-index l = l.index ≤ length l.leap_seconds

abbrev pub decreases-loop-index : goal.decreases-loop-index
decreases-loop-index l = length l.leap_seconds - l.index
