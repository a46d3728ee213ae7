-- A borrowed rule.
use Rattle.std.specs.Prelude.{Option, option_map}
use Rattle.tz_rule.specs.RuleRef.{rule_seen}
use Rattle.tz_rule.specs.declared.timezone.transition_rule.TransitionRule.{TransitionRule}
use Rattle.tz_rule.specs.declared.timezone.transition_rule.RuleRef.{RuleRef}

-- the rule that is borrowed, if there is one
abbrev pub borrowed_rule : Option RuleRef → Option TransitionRule
borrowed_rule rule = option_map rule_seen rule
