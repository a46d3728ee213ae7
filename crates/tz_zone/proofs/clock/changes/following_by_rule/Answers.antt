-- The change of the rule is that of a clock without transitions.
use Rattle.tz_zone.proofs.Common.{to_z-of_z, rules, w64, refl, sym, ◌∙◌, ap, zone_of_data, rule_seen, option_map, without_transitions, type_change_of}
use Rattle.tz_zone.proofs.ChangeSpans.{following_of_rule, no_following_of_rule}
use Rattle.tz_zone.proofs.SegmentTypes.{match_none}
use Rattle.tz_zone.proofs.clock.changes.following_by_rule.Goals as goal

pub returns-in_err-change : goal.returns-in_err-change
returns-in_err-change c =
    let is = sym c.rule.ensures ∙ ap (option_map rule_seen) c.in_ok-rule.was in
    let none = rw (to_z-of_z w64 c.args.unix_time c.ranges.unix_time) at c.in_err-change.ensures in
    match_none c.from_residual-in_err-change.result _ _ c.from_residual-in_err-change.ensures
    (no_following_of_rule (without_transitions (zone_of_data c.args.zone.now)) refl (rule_seen c.in_ok-rule.rule) is
    c.args.unix_time none)

pub returns : goal.returns
returns c =
    let z = without_transitions (zone_of_data c.args.zone.now) in
    let rule = rule_seen c.in_ok-rule.rule in
    let k = c.in_ok-change.change in
    let found = rw (to_z-of_z w64 c.args.unix_time c.ranges.unix_time) at c.in_ok-change.ensures in
    rw (c.new.ensures, to_z-of_z w64 k.unix_time (search rules))
    (following_of_rule z refl rule (sym c.rule.ensures ∙ ap (option_map rule_seen) c.in_ok-rule.was)
    c.args.unix_time (type_change_of k) found)
