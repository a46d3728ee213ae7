-- The view is of the zone's own transitions.
use Rattle.tz_zone.proofs.Common.{to_z-of_z, w64, zone_of_data}
use Rattle.tz_zone.proofs.SegmentTypes.{true_segment}
use Rattle.tz_zone.proofs.timezone.zone_data.ZoneData.segment_at.Goals as goal

pub returns-clause-segment : goal.returns-clause-segment
returns-clause-segment c =
    let u = c.args.unix_time in
    let at = rw (to_z-of_z w64 u c.ranges.unix_time) at c.clock_segment_at.ensures.at in
    true_segment (zone_of_data c.args.self.now) u c.clock_segment_at.result at
