-- A rule that passes its checks has no fault.
use Rattle.tz_c.proofs.Common.{inl, inr}
use Rattle.tz_base.specs.declared.error.TransitionRuleError.{TransitionRuleError}
use Rattle.tz_base.specs.declared.error.TransitionRuleError.TheVariants.{InvalidStdUtcOffset, InvalidDstUtcOffset, InvalidDstStartEndTime}
use Rattle.tz_rule.specs.Alternate.{AlternateTime, IsConsistentRule, IsFirstRuleFault, IsInRuleRange, IsRangeFault}

no_range_fault : (r : AlternateTime) (e : TransitionRuleError) → IsInRuleRange r → IsRangeFault r e → ⊥
no_range_fault r InvalidStdUtcOffset is fault = fault is.std_is
no_range_fault r InvalidDstUtcOffset is fault = fault.1 is.dst_is
no_range_fault r InvalidDstStartEndTime is fault = fault.2 (is.start_is, is.end_is)
no_range_fault r _ is fault = fault

pub no_rule_fault : (r : AlternateTime) (e : TransitionRuleError) → IsConsistentRule r → IsFirstRuleFault r e → ⊥
no_rule_fault r e is fault = elim fault [ inl h ↦ no_range_fault r e is.in_range h | inr h ↦ is.consistent h.2 ]
