-- The zone's data answers.
use Rattle.tz_zone.proofs.Common.{to_z-of_z, w64}
use Rattle.tz_zone.proofs.timezone.zone_ref.TimeZoneRef.find_local_time_type.Goals as goal

pub returns-clause-ok : goal.returns-clause-ok
returns-clause-ok c = rw (to_z-of_z w64 c.args.unix_time c.ranges.unix_time) at c.find_local_time_type.ensures.ok
