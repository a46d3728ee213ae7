-- The borrowed rule is that of the lists.
use Rattle.tz_c.proofs.Common.{rules, SFits, to_z-of_z, w32}
use Rattle.tz_c.proofs.zone_data.TzZone.as_zone_data.Goals as goal

pub from_valid_parts-requires-clause-offsets : goal.from_valid_parts-requires-clause-offsets
from_valid_parts-requires-clause-offsets c =
    let zone = c.args.self.now in
    let fits_least : SFits w32 zone.offsets.least = search rules in
    let fits_greatest : SFits w32 zone.offsets.greatest = search rules in
    rw (
      c.rule_of_lists.ensures,
      to_z-of_z w32 zone.offsets.least fits_least,
      to_z-of_z w32 zone.offsets.greatest fits_greatest,
    ) zone.ends
