-- The change of the rule is that of a clock without transitions.
use Rattle.tz_zone.proofs.Common.{to_z-of_z, rules, w64, refl, sym, ◌∙◌, ap, zone_of_data, rule_seen, option_map, without_transitions, type_change_of}
use Rattle.tz_zone.proofs.ChangeSpans.{preceding_of_rule, no_preceding_of_rule}
use Rattle.tz_zone.proofs.SegmentTypes.{match_none}
use Rattle.tz_zone.proofs.clock.changes.preceding_by_rule.Goals as goal

pub returns-in_err-change : goal.returns-in_err-change
returns-in_err-change c =
    let is = sym c.rule.ensures ∙ ap (option_map rule_seen) c.in_ok-rule.was in
    let none = rw (to_z-of_z w64 c.args.last c.ranges.last) at c.in_err-change.ensures in
    match_none c.from_residual-in_err-change.result _ _ c.from_residual-in_err-change.ensures
    (no_preceding_of_rule (without_transitions (zone_of_data c.args.zone.now)) refl (rule_seen c.in_ok-rule.rule) is
    c.args.last none)

pub returns : goal.returns
returns c =
    let is = sym c.rule.ensures ∙ ap (option_map rule_seen) c.in_ok-rule.was in
    let k = c.in_ok-change.change in
    let found = rw (to_z-of_z w64 c.args.last c.ranges.last) at c.in_ok-change.ensures in
    rw (c.new.ensures, to_z-of_z w64 k.unix_time (search rules))
    (preceding_of_rule (without_transitions (zone_of_data c.args.zone.now)) refl (rule_seen c.in_ok-rule.rule) is
    c.args.last (type_change_of k) found)
