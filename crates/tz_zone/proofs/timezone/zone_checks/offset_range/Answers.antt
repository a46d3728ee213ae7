-- The types of the list and of the rule.
use Rattle.tz_zone.proofs.Common.{arith, to_z-of_z, rules, ints, sym, inr, inl, ◌∙◌, subst, ap, same_Some, w32, TransitionRule, rule_seen, option_map, IsOffsetOfRule}
use Rattle.tz_zone.proofs.timezone.zone_checks.offset_range.Goals as goal

pub returns-in-Some : goal.returns-in-Some
returns-in-Some c =
    let rule = rule_seen c.in-Some.rule in
    let (low, high) = c.offsets_of_types-least.result in
    let types = c.offsets_of_types-least.ensures in
    let of_zone = ap (option_map rule_seen) c.in-Some.is in
    let both = rw (to_z-of_z w32 low (search rules), to_z-of_z w32 high (search rules)) at c.with_rule.ensures in
    record {
      least = (
        elim both.exact.0 [ inl e ↦ inl (rw e types.of_types.0) | inr of_rule ↦ inr (rule, of_zone, of_rule) ],
        λ o is. elim is [
          | inl of_type ↦ omega (arith, ints, (types.between o of_type).0, both.least)
          | inr w ↦ (both.between o (subst (λ (r : TransitionRule). IsOffsetOfRule r o)
              (same_Some w.0 rule (sym w.1 ∙ of_zone)) w.2)).0
        ],
      );
      greatest = (
        elim both.exact.1 [ inl e ↦ inl (rw e types.of_types.1) | inr of_rule ↦ inr (rule, of_zone, of_rule) ],
        λ o is. elim is [
          | inl of_type ↦ omega (arith, ints, (types.between o of_type).1, both.greatest)
          | inr w ↦ (both.between o (subst (λ (r : TransitionRule). IsOffsetOfRule r o)
              (same_Some w.0 rule (sym w.1 ∙ of_zone)) w.2)).1
        ],
      );
    }
