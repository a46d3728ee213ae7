-- The rule of plain data, or none.
use Rattle.std.specs.Prelude.{ℕ, zero, suc, Option, Some, None}
use Rattle.tz_rule.specs.Alternate.{AlternateTime}
use Rattle.tz_rule.specs.LocalTimeType.{LocalTimeType}
use Rattle.tz_rule.specs.declared.timezone.transition_rule.TransitionRule.{TransitionRule}
use Rattle.tz_rule.specs.declared.timezone.transition_rule.TransitionRule.TheVariants.{Fixed, Alternate}
use Rattle.tz_c.specs.declared.rule_data.RuleData.{RuleData}

-- the rule of a kind: none, a fixed type, or an alternate rule; a greater number is no kind
abbrev pub rule_of_kind : ℕ → LocalTimeType → AlternateTime → Option TransitionRule
rule_of_kind zero fixed alternate = None
rule_of_kind (suc zero) fixed alternate = Some (Fixed fixed)
rule_of_kind (suc (suc zero)) fixed alternate = Some (Alternate alternate)
rule_of_kind (suc (suc (suc kind))) fixed alternate = None

abbrev pub rule_given : RuleData → Option TransitionRule
rule_given r = rule_of_kind r.kind r.fixed r.alternate
