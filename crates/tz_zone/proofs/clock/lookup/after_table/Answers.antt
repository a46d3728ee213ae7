-- A rule has the types after the table, whether there are transitions or not.
use Rattle.tz_zone.proofs.Common.{◌≡◌, to_z-of_z, rules, w64, sym, ℤ, ◌∙◌, ap, Some, zone_of_data, LocalTimeType, Zone, Option, false, true, Bool, TransitionRule, MatchOption, IsTypeWithout, IsRuleType, IsTypeAfter, rule_seen, Bor, option_map}
use Rattle.std.specs.Prelude.{MatchBool}
use Rattle.tz_zone.proofs.clock.lookup.after_table.Goals as goal

by_rule : (z : Zone) (is_empty : Bool) (o : Option TransitionRule) (rule : TransitionRule) → o ≡ Some rule → (v : ℤ)
    → (type : Option (Bor LocalTimeType))
    → MatchOption type ((t : LocalTimeType) → ¬ IsRuleType rule v t) (λ t. IsRuleType rule v t.now)
    → MatchOption type ((t : LocalTimeType) → ¬ MatchBool is_empty (IsTypeWithout z o v t) (IsTypeAfter o v t))
    (λ t. MatchBool is_empty (IsTypeWithout z o v t.now) (IsTypeAfter o v t.now))
by_rule z true o rule is v type holds = rw is holds
by_rule z false o rule is v type holds = rw is holds

pub returns-clause-holds : goal.returns-clause-holds
returns-clause-holds c =
    let z = zone_of_data c.args.zone.now in
    let rule = rule_seen c.in-Some.rule in
    let is : z.extra_rule ≡ Some rule = sym c.rule.ensures ∙ ap (option_map rule_seen) c.in-Some.is in
    let s = c.segment_at-segment.result in
    rw (to_z-of_z w64 s.from (search rules), to_z-of_z w64 s.last (search rules)) (λ v from to.
    by_rule z c.args.is_empty z.extra_rule rule is v s.local_time_type (c.segment_at-segment.ensures.holds v from to))
