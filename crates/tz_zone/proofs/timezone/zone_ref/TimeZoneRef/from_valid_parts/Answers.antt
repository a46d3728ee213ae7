-- The zone's data has the rule that was passed.
use Rattle.tz_zone.proofs.Common.{◌∙◌, ap, to_z-of_z, w32, Zone}
use Rattle.tz_zone.proofs.timezone.zone_ref.TimeZoneRef.from_valid_parts.Goals as goal

pub invariant_of-result : goal.invariant_of-result
invariant_of-result c = record {
  same = ap (λ (z : Zone). z.extra_rule) c.from_valid_parts-zone_data.ensures ∙ c.rule_ref.ensures;
}

pub from_valid_parts-zone_data-requires-clause-offsets : goal.from_valid_parts-zone_data-requires-clause-offsets
from_valid_parts-zone_data-requires-clause-offsets c =
    let least_is = to_z-of_z w32 c.args.least_offset c.ranges.least_offset in
    let greatest_is = to_z-of_z w32 c.args.greatest_offset c.ranges.greatest_offset in
    rw (c.rule_ref.ensures, least_is, greatest_is) c.requires.offsets
