-- The transitions from the position on are ahead at the instant before the effect.
use Rattle.tz_zone.proofs.Common.{◌≤◌, AreAhead}
use Rattle.tz_zone.proofs.clock.changes.position_before_effect.Given as goal

abbrev pub invariant-loop-position : goal.invariant-loop-position
invariant-loop-position l = record {
  up_to : l.position ≤ l.index;
  ahead : AreAhead l.zone.transitions.now l.unix_leap_time l.position;
}

abbrev pub decreases-loop-position : goal.decreases-loop-position
decreases-loop-position l = l.position
