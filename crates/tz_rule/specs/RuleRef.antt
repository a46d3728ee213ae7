-- The rule that a reference to a type or to the data of an alternate rule lends.
use Rattle.tz_rule.specs.declared.timezone.transition_rule.TransitionRule.{TransitionRule}
use Rattle.tz_rule.specs.declared.timezone.transition_rule.TransitionRule.TheVariants.{Fixed, Alternate}
use Rattle.tz_rule.specs.declared.timezone.transition_rule.RuleRef.{RuleRef}
use Rattle.tz_rule.specs.declared.timezone.transition_rule.RuleRef.TheVariants.{Fixed as FixedRef, Alternate as AlternateRef}

abbrev pub rule_seen : RuleRef → TransitionRule
rule_seen (FixedRef t) = Fixed t.now
rule_seen (AlternateRef r) = Alternate r.now
