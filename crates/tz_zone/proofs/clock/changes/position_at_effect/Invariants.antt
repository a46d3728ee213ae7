-- The transitions so far are reached at the effect.
use Rattle.tz_zone.proofs.Common.{length, ◌<◌, ◌-◌, ◌≤◌, AreReached}
use Rattle.tz_zone.proofs.clock.changes.position_at_effect.Given as goal

abbrev pub invariant-loop-position : goal.invariant-loop-position
invariant-loop-position l = record {
  after : l.index < l.position;
  within : l.position ≤ length l.zone.transitions.now;
  reached : AreReached l.zone.transitions.now l.unix_leap_time l.position;
}

abbrev pub decreases-loop-position : goal.decreases-loop-position
decreases-loop-position l = length l.zone.transitions.now - l.position
