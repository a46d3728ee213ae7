-- A zone keeps the offsets of its own types and rule.
use Rattle.tz_zone.proofs.Common.{to_z-of_z, rules, w32}
use Rattle.tz_zone.proofs.timezone.zone_data.ZoneData.new.Goals as goal

pub invariant_of-result : goal.invariant_of-result
invariant_of-result c =
    let ends = c.offset_range-least_offset in
    let least_is = to_z-of_z w32 ends.result.0 (search rules) in
    let greatest_is = to_z-of_z w32 ends.result.1 (search rules) in
    record {
      sound = c.in_ok-check_parts.ensures.ok.table;
      valid = ∣ c.in_ok-check_parts.ensures.ok ∣₁;
      offsets = rw (least_is, greatest_is) (∣ (ends.ensures.least, ends.ensures.greatest) ∣₁);
      least_fits = rw least_is (search rules);
      greatest_fits = rw greatest_is (search rules);
    }
