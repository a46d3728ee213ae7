-- A rule has one type at an instant, and an alternate rule has one in all its years. It repeats after 400 years.
use Rattle.tz_rule.proofs.Common.{◌≡◌, pos, ◌∙◌, refl, ◌+ℤ◌, ℤ, sym, inl, inr, end_of, start_of, AlternateTime, AreRuleDays, IsInRuleRange, IsRuleType, LocalTimeType, IsAlternateType, IsInRuleYears, Fixed, TransitionRule, ends_come_first, IsSoundRule}
use Rattle.tz_rule.specs.declared.timezone.transition_rule.TransitionRule.TheVariants.{Alternate as Two}
use Rattle.tz_rule.proofs.ChangePoints.{daylight_repeats, daylight_repeated}
use Rattle.tz_rule.proofs.RuleSegments.{alternate_type_total}
use Rattle.tz_rule.proofs.RulesAcrossYears.{MatchBool-ends_come_first}
use Rattle.tz_rule.proofs.YearlyInstants.{IsYearly-start_of, IsYearly-end_of}

pub alternate_type_unique : (r : AlternateTime) (u : ℤ) (t t' : LocalTimeType) → IsAlternateType r u t
    → IsAlternateType r u t' → t ≡ t'
alternate_type_unique r u t t' (inl (day, e)) (inl (day', e')) = e ∙ sym e'
alternate_type_unique r u t t' (inl (day, e)) (inr (none, e')) = absurd (none day)
alternate_type_unique r u t t' (inr (none, e)) (inl (day, e')) = absurd (none day)
alternate_type_unique r u t t' (inr (none, e)) (inr (none', e')) = e ∙ sym e'

pub rule_type_unique : (rule : TransitionRule) (u : ℤ) (t t' : LocalTimeType) → IsRuleType rule u t
    → IsRuleType rule u t' → t ≡ t'
unfolding IsRuleType
rule_type_unique (Fixed fixed) u t t' a b = a ∙ sym b
rule_type_unique (Two r) u t t' a b = alternate_type_unique r u t t' a.1 b.1

module _ (r : AlternateTime) (range : IsInRuleRange r) (days : AreRuleDays r) where
  pub alternate_type_repeats : (u : ℤ) (t : LocalTimeType) → IsAlternateType r u t
      → IsAlternateType r (u +ℤ pos 12622780800) t
  alternate_type_repeats u t (inl (day, e)) =
      inl (
        daylight_repeats (start_of r) (end_of r) (IsYearly-start_of r range days.start_is)
            (IsYearly-end_of r range days.end_is) u day,
        e,
      )
  alternate_type_repeats u t (inr (none, e)) =
      inr (
        λ day. none (daylight_repeated (start_of r) (end_of r) (IsYearly-start_of r range days.start_is)
            (IsYearly-end_of r range days.end_is) u day),
        e,
      )

pub rule_type_total : (rule : TransitionRule) (u : ℤ) → IsSoundRule rule → IsInRuleYears u
    → (t : LocalTimeType) × IsRuleType rule u t
unfolding IsRuleType
rule_type_total (Fixed fixed) u sound years = (fixed, refl)
rule_type_total (Two r) u sound years =
    let found = alternate_type_total r sound.0.in_range sound.1 (ends_come_first r) u years.0 years.1
    (MatchBool-ends_come_first r sound.1) in
    (found.0, (years, found.1))

pub rule_type_repeats : (rule : TransitionRule) (u : ℤ) (t t' : LocalTimeType) → IsSoundRule rule → IsRuleType rule u t
    → IsRuleType rule (u +ℤ pos 12622780800) t' → t ≡ t'
unfolding IsRuleType
rule_type_repeats (Fixed fixed) u t t' sound a b = a ∙ sym b
rule_type_repeats (Two r) u t t' sound a b =
    alternate_type_unique r (u +ℤ pos 12622780800) t t' (alternate_type_repeats r sound.0.in_range sound.1 u t a.1) b.1
