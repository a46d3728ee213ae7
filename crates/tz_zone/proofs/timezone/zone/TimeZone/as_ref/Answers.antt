-- The borrowed zone keeps the same offsets.
use Rattle.tz_zone.proofs.Common.{to_z-of_z, rules, w32}
use Rattle.tz_zone.proofs.timezone.zone.TimeZone.as_ref.Goals as goal

pub from_valid_parts-requires-clause-offsets : goal.from_valid_parts-requires-clause-offsets
from_valid_parts-requires-clause-offsets g c =
    let zone = c.args.self.now in
    rw (
      c.deref-2.ensures.value,
      to_z-of_z w32 zone.least_offset (search rules),
      to_z-of_z w32 zone.greatest_offset
          (search rules),
    ) zone.offsets
