-- The walk has come to an instant that lies at the position.
use Rattle.tz_zone.proofs.Common.{length, zone_of_data, ◌-◌, IsWalkedUp}
use Rattle.tz_zone.proofs.clock.changes.following_from.Given as goal

abbrev pub invariant-loop-position : goal.invariant-loop-position
invariant-loop-position l = IsWalkedUp (zone_of_data l.zone) l.unix_time l.since l.position

abbrev pub decreases-loop-position : goal.decreases-loop-position
decreases-loop-position l = length l.zone.transitions.now - l.position
