-- A zone of one type alone is valid.
use Rattle.tz_zone.proofs.Common.{to_z-of_z, rules, LocalTimeType, w32, IsValidZone, zone_of_type}
use Rattle.tz_zone.proofs.OffsetBounds.{ends_of_type}
use Rattle.tz_zone.proofs.timezone.zone.TimeZone.with_type.Goals as goal

is_valid : (t : LocalTimeType) → IsValidZone (zone_of_type t)
is_valid t = record {
  table = record {
    has_types = λ e. cc;
    transitions_are = λ i. (λ change at. cc, λ change next at at_next. cc);
    leap_seconds_are = record { first = λ l at. cc; apart = λ i l next at at_next. cc };
  };
  rule_answers = λ rule last is at begun. cc;
  rule_agrees = λ rule last is at begun. cc;
}

pub invariant_of-result-clause-sound : goal.invariant_of-result-clause-sound
invariant_of-result-clause-sound g c = rw (
  c.new.ensures.items,
  c.in_ok-local_time_types.ensures.items,
  c.new-2.ensures.items,
)
    (is_valid c.args.local_time_type).table

pub invariant_of-result-clause-valid : goal.invariant_of-result-clause-valid
invariant_of-result-clause-valid g c = rw (
  c.new.ensures.items,
  c.in_ok-local_time_types.ensures.items,
  c.new-2.ensures.items,
)
    (∣ is_valid c.args.local_time_type ∣₁)

pub invariant_of-result-clause-offsets : goal.invariant_of-result-clause-offsets
invariant_of-result-clause-offsets g c =
    rw (
      c.in_ok-local_time_types.ensures.items,
      to_z-of_z w32 c.ut_offset-ut_offset.result
          (search rules),
      c.ut_offset-ut_offset.ensures.value,
    ) (∣ ends_of_type c.args.local_time_type ∣₁)
