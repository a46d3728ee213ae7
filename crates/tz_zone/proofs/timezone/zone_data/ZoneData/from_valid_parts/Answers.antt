-- The offsets are kept as they are passed.
use Rattle.tz_zone.proofs.Common.{to_z-of_z, w32}
use Rattle.tz_zone.proofs.timezone.zone_data.ZoneData.from_valid_parts.Goals as goal

pub invariant_of-result : goal.invariant_of-result
invariant_of-result c =
    let least_is = to_z-of_z w32 c.args.least_offset c.ranges.least_offset in
    let greatest_is = to_z-of_z w32 c.args.greatest_offset c.ranges.greatest_offset in
    record {
      sound = c.requires.sound;
      valid = c.requires.valid;
      offsets = rw (least_is, greatest_is) c.requires.offsets;
      least_fits = rw least_is c.ranges.least_offset;
      greatest_fits = rw greatest_is c.ranges.greatest_offset;
    }
