-- What calls answer of local time types and rules.
use Rattle.std.specs.Prelude.{◌≡◌, ℕ, ℤ, List, [], ◌∷◌, Bool, Option, Some, None, if◌then◌else◌}
use Rattle.tz_rule.specs.Alternate.{AlternateTime, start_of, end_of, IsInRuleRange, IsConsistentRule, IsFirstRuleFault}
use Rattle.tz_rule.specs.LocalTimeType.{LocalTimeType, IsLocalTimeType, IsFirstTypeFault}
use Rattle.tz_rule.specs.Pairing.{IsConflict, IsInconsistent}
use Rattle.tz_rule.specs.Rule.{IsRuleType}
use Rattle.tz_rule.specs.declared.timezone.transition_rule.TransitionRule.{TransitionRule}
use Rattle.tz_rule.specs.declared.timezone.transition_rule.TransitionRule.TheVariants.{Fixed, Alternate}
use Rattle.tz_c.specs.Codes.{IsAnswerBy, IsAnswerOr, type_code, rule_code, no_rule, no_conflict}
use Rattle.tz_c.specs.declared.zones.ConflictData.{ConflictData}

-- a name that is given, or none
abbrev pub name_if : Bool → List ℕ → Option (List ℕ)
name_if has_name name = if has_name then Some name else None

-- the local time type is written, or its first fault is named
abbrev pub IsTypeAnswer : LocalTimeType → ℕ → LocalTimeType → Type 0
IsTypeAnswer t code written = IsAnswerBy type_code code (IsLocalTimeType t × (written ≡ t))
    (IsFirstTypeFault t)

-- the rule is written, or its first fault is named
abbrev pub IsAlternateAnswer : AlternateTime → ℕ → AlternateTime → Type 0
IsAlternateAnswer r code written = IsAnswerBy rule_code code (IsConsistentRule r × (written ≡ r))
    (IsFirstRuleFault r)

-- years that show a conflict are written, or there are none
abbrev pub IsConflictAnswer : AlternateTime → ℕ → ConflictData → Type 0
IsConflictAnswer r code written =
    IsAnswerOr code no_conflict
    (IsInRuleRange r × IsConflict (start_of r) (end_of r) written.first_year written.second_year
    written.distance)
    (¬ (IsInRuleRange r × IsInconsistent (start_of r) (end_of r)))

-- the rule that two lists give: the first type of the one, or else the first alternate rule of the
-- other
abbrev pub rule_of_lists : List LocalTimeType → List AlternateTime → Option TransitionRule
rule_of_lists (fixed ∷ _) _ = Some (Fixed fixed)
rule_of_lists [] (rule ∷ _) = Some (Alternate rule)
rule_of_lists [] [] = None

-- the type of a rule at an instant is written, or it has none there, or there is no rule
abbrev pub IsRuleTypeAnswer : Option TransitionRule → ℤ → ℕ → LocalTimeType → Type 0
IsRuleTypeAnswer None u code written = code ≡ no_rule
IsRuleTypeAnswer (Some rule) u code written =
    IsAnswerOr code 1 (IsRuleType rule u written) ((t : LocalTimeType) → ¬ IsRuleType rule u t)
