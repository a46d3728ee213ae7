-- What calls answer of files and TZ strings.
use Rattle.std.specs.Prelude.{◌≡◌, ℕ, List, Bool, Some}
use Rattle.tz_rule.specs.declared.timezone.transition_rule.TransitionRule.{TransitionRule}
use Rattle.tz_zone.specs.TzText.{IsTzText}
use Rattle.tz_c.specs.RuleData.{rule_given}
use Rattle.tz_c.specs.declared.rule_data.RuleData.{RuleData}

-- the data is that of the rule which a TZ string denotes
abbrev pub GivesTextRule : Bool → List ℕ → RuleData → Type 0
GivesTextRule extended text written = (rule : TransitionRule) × IsTzText extended text rule
    × (rule_given written ≡ Some rule)
