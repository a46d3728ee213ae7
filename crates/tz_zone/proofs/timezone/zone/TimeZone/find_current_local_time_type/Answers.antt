-- The answer is that of the borrowed zone.
use Rattle.tz_zone.proofs.Common.{to_z-of_z, w64}
use Rattle.tz_zone.proofs.timezone.zone.TimeZone.find_current_local_time_type.Goals as goal

pub returns-clause-ok : goal.returns-clause-ok
returns-clause-ok g c = rw (to_z-of_z w64 c.args.unix_time c.ranges.unix_time) at c.find_local_time_type.ensures.ok
