-- The less and the greater of two numbers are one of them.
use Rattle.tz_zone.proofs.Common.{to_z-of_z, rules, inr, inl, ◌∙◌, w32}
use Rattle.tz_zone.proofs.OffsetBounds.{int_min_either, int_max_either}
use Rattle.tz_zone.proofs.timezone.zone_checks.with_offset.Goals as goal

pub returns : goal.returns
returns c =
    let least = c.args.least in
    let greatest = c.args.greatest in
    let offset = c.args.offset in
    let min = rw (to_z-of_z w32 least c.ranges.least, to_z-of_z w32 offset c.ranges.offset) at c.min.ensures in
    let max = rw (to_z-of_z w32 greatest c.ranges.greatest, to_z-of_z w32 offset c.ranges.offset) at c.max.ensures in
    rw (to_z-of_z w32 c.min.result (search rules), to_z-of_z w32 c.max.result (search rules)) (record {
      least = min.self_bound;
      greatest = max.self_bound;
      between = (min.other_bound, max.other_bound);
      exact = (
        elim (int_min_either least offset) [ inl e ↦ inl (min.value ∙ e) | inr e ↦ inr (min.value ∙ e) ],
        elim (int_max_either greatest offset) [ inl e ↦ inl (max.value ∙ e) | inr e ↦ inr (max.value ∙ e) ],
      );
    })
