-- Which type a rule has at an instant. (POSIX.1-2017, Base Definitions, 8.3: the TZ variable.)
use Rattle.std.specs.Prelude.{◌≡◌, ℤ, List, [], ◌∷◌}
use Rattle.tz_rule.specs.LocalTimeType.{LocalTimeType}
use Rattle.tz_rule.specs.Alternate.{IsInRuleYears, IsAlternateType, IsConsistentRule, AreRuleDays}
use Rattle.tz_rule.specs.declared.timezone.transition_rule.TransitionRule.{TransitionRule}
use Rattle.tz_rule.specs.declared.timezone.transition_rule.TransitionRule.TheVariants.{Fixed, Alternate}

-- a fixed rule has its type always, an alternate rule one of its types in the years over which it
-- is defined
unfoldable pub IsRuleType : TransitionRule → ℤ → LocalTimeType → Type 0
IsRuleType (Fixed fixed) u t = t ≡ fixed
IsRuleType (Alternate r) u t = IsInRuleYears u × IsAlternateType r u t

-- the rule and its days pass the checks of their constructors
abbrev pub IsSoundRule : TransitionRule → Type 0
IsSoundRule (Fixed fixed) = Unit {0}
IsSoundRule (Alternate r) = IsConsistentRule r × AreRuleDays r

-- the types of a rule: one, or those of standard time and of daylight saving time
abbrev pub types_of : TransitionRule → List LocalTimeType
types_of (Fixed fixed) = fixed ∷ []
types_of (Alternate r) = r.std ∷ r.dst ∷ []
