-- The rule whose bytes are all zero: its tables are zeros, which change no order.
use Rattle.tz_rule.proofs.Common.{arith, ◌≡◌, ints, pos, refl, ℤ, inl, entry, false, List, year_day_of, ComesFirst, end_table, start_table, ◌&&◌, day_table, greatest_entry, least_entry, is_inner, AreBounds, IsRuleInside, get_or-replicate, replicate, parts_of}
use Rattle.tz_rule.specs.ZeroRule.{zero_rule}
use Rattle.tz_rule.proofs.ApartBounds.{never_first, no_order_changes}
use Rattle.tz_rule.proofs.RulesAcrossYears.{kept_from}

abbrev zeros : List ℤ
zeros = replicate 14 (pos 0)

starts_are : zeros ≡ start_table zero_rule
unfolding start_table day_table year_day_of
starts_are = refl

ends_are : zeros ≡ end_table zero_rule
unfolding end_table day_table year_day_of
ends_are = refl

are_bounds : AreBounds zeros (pos 0) (pos 0)
are_bounds kind below =
    let zero : entry zeros kind ≡ pos 0 = get_or-replicate 14 kind (pos 0) (pos 0) below in
    (omega (arith, ints, zero), omega (arith, ints, zero))

never_before : ¬ ComesFirst zeros zeros
never_before = never_first zeros zeros (pos 0) (pos 0) (pos 0) (pos 0) are_bounds are_bounds (omega (arith, ints))

is_outer : false ≡ (is_inner zeros && is_inner zeros)
unfolding least_entry greatest_entry
is_outer = refl

pub zeros_kept : IsRuleInside (record {
  parts = parts_of zero_rule;
  ends_next_year = false;
  has_inner_switches = false;
  starts = record { 0 = zeros };
  ends = record { 0 = zeros };
})
zeros_kept =
    kept_from (record {
      parts = parts_of zero_rule;
      ends_next_year = false;
      has_inner_switches = false;
      starts = record { 0 = zeros };
      ends = record { 0 = zeros };
    })
    (record {
      std_is = (omega (arith, ints), omega (arith, ints));
      dst_is = (omega (arith, ints), omega (arith, ints));
      start_is = (omega (arith, ints), omega (arith, ints));
      end_is = (omega (arith, ints), omega (arith, ints));
    })
    (record { start_is = omega arith; end_is = omega arith })
    starts_are ends_are
    (no_order_changes zeros zeros (pos 0) (pos 0) (pos 0) (pos 0) are_bounds are_bounds (omega (arith, ints))
    (omega (arith, ints)) (inl never_before))
    never_before is_outer
