-- The walk has come to an instant that lies at the position. After all transitions no change is left after the seam.
use Rattle.tz_zone.proofs.Common.{ℤ, zone_of_data, HasNoneAfterSeam, IsWalkedDown}
use Rattle.tz_zone.proofs.clock.changes.preceding_from.Given as goal

abbrev pub invariant-loop-position : goal.invariant-loop-position
invariant-loop-position l = record {
  walked : (last : ℤ) × IsWalkedDown (zone_of_data l.zone) l.unix_time last l.position;
  seam : HasNoneAfterSeam (zone_of_data l.zone) l.position l.unix_time;
}

abbrev pub decreases-loop-position : goal.decreases-loop-position
decreases-loop-position l = l.position
