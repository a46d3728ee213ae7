-- A zone is made of its parts.
use Rattle.tz_zone.proofs.Common.{to_z-of_z, rules, w32}
use Rattle.tz_zone.proofs.timezone.zone.TimeZone.with_transitions.Goals as goal

pub invariant_of-result-clause-sound : goal.invariant_of-result-clause-sound
invariant_of-result-clause-sound g c =
    rw (← c.deref.ensures.value, ← c.deref-2.ensures.value, ← c.deref-3.ensures.value)
    (rw c.rule_ref.ensures at c.in_ok-check_parts.ensures.ok).table

pub invariant_of-result-clause-valid : goal.invariant_of-result-clause-valid
invariant_of-result-clause-valid g c =
    rw (← c.deref.ensures.value, ← c.deref-2.ensures.value, ← c.deref-3.ensures.value)
    (∣ rw c.rule_ref.ensures at c.in_ok-check_parts.ensures.ok ∣₁)

pub invariant_of-result-clause-offsets : goal.invariant_of-result-clause-offsets
invariant_of-result-clause-offsets g c =
    let ends = c.offset_range-least_offset in
    rw (
      to_z-of_z w32 ends.result.0 (search rules),
      to_z-of_z w32 ends.result.1 (search rules),
      ← c.deref-4.ensures.value,
    )
    (∣ (rw c.rule_ref-2.ensures at ends.ensures.least, rw c.rule_ref-2.ensures at ends.ensures.greatest) ∣₁)

pub check_parts-requires : goal.check_parts-requires
check_parts-requires g c = rw (c.deref.ensures.value, c.deref-2.ensures.value) c.requires
