-- The offsets that the zone keeps are those that it has.
use Rattle.tz_zone.proofs.Common.{to_z-of_z, rules, zone_of_data, w32}
use Rattle.tz_zone.proofs.OffsetBounds.{found_end_offsets}
use Rattle.tz_zone.proofs.timezone.zone_data.ZoneData.offsets.Goals as goal

pub returns : goal.returns
returns c =
    let zone = c.args.self.now in
    rw (to_z-of_z w32 zone.least_offset (search rules), to_z-of_z w32 zone.greatest_offset (search rules))
    (found_end_offsets (zone_of_data zone) zone.least_offset zone.greatest_offset zone.offsets)
