-- Spans of time between two changes of a rule, through which it has one type or none.
-- (POSIX.1-2017, Base Definitions, 8.3: the TZ variable.)
use Rattle.std.specs.Prelude.{◌≡◌, ◌≢◌, ◌⊎◌, Bool, ℤ, pos, negsuc, ◌+ℤ◌, ◌-ℤ◌, ◌*ℤ◌, ◌≤ℤ◌, ◌<ℤ◌, MatchOption, if◌then◌else◌}
use Rattle.tz_base.specs.Days.{first_day}
use Rattle.tz_rule.specs.LocalTimeType.{LocalTimeType}
use Rattle.tz_rule.specs.Alternate.{AlternateTime, start_of, end_of, IsInRuleYears, IsAlternateType}
use Rattle.tz_rule.specs.Rule.{IsRuleType}
use Rattle.tz_rule.specs.declared.timezone.transition_rule.TransitionRule.{TransitionRule}
use Rattle.tz_rule.specs.declared.timezone.transition_rule.TransitionRule.TheVariants.{Fixed, Alternate}
use Rattle.tz_rule.specs.declared.timezone.rule_segments.RuleSegment.{RuleSegment}
use Rattle.tz_rule.specs.declared.timezone.rule_segments.AlternateSegment.{AlternateSegment}

-- the type of daylight saving time, or that of standard time
abbrev pub type_by : AlternateTime → Bool → LocalTimeType
type_by r is_daylight = if is_daylight then r.dst else r.std

-- some year's start or end
abbrev pub IsSwitch : AlternateTime → ℤ → Type 0
IsSwitch r u = (y : ℤ) × ((u ≡ start_of r y) ⊎ (u ≡ end_of r y))

-- an instant at which a rule may change its type, since daylight saving time starts or ends by it,
-- or at which it begins or ceases to be defined; where it is not defined nothing starts or ends
abbrev pub IsRuleChange : TransitionRule → ℤ → Type 0
IsRuleChange (Fixed fixed) u = ⊥
IsRuleChange (Alternate r) u =
    (IsSwitch r u × IsInRuleYears u) ⊎ (u ≡ pos 86400 *ℤ first_day (negsuc 2147483645))
    ⊎ (u ≡ pos 86400 *ℤ first_day (pos 2147483646))

-- a segment holds the instant, is between two changes of the rule or the ends of 64 bits, and the
-- rule has its type, or none, at each of its instants
pub record IsRuleSegment (rule : TransitionRule) (u : ℤ) (s : RuleSegment) : Type 0 where
  pub within : (s.from ≤ℤ u) × (u ≤ℤ s.last)
  pub holds : (v : ℤ) → s.from ≤ℤ v → v ≤ℤ s.last
      → MatchOption s.local_time_type ((t : LocalTimeType) → ¬ IsRuleType rule v t)
      (λ t. IsRuleType rule v t.now)
  pub from_is : s.from ≢ negsuc 9223372036854775807 → IsRuleChange rule s.from
  pub last_is : s.last ≢ pos 9223372036854775807 → IsRuleChange rule (s.last +ℤ pos 1)

-- a segment between two switches of a year and its neighbours, through which the starts and ends
-- determine the type, also outside of the rule's years
pub record IsSwitchSegment (r : AlternateTime) (year : ℤ) (s : AlternateSegment) : Type 0 where
  pub from_is : IsSwitch r s.from
  pub until_is : IsSwitch r s.until
  pub one_type : (v : ℤ) → s.from ≤ℤ v → v <ℤ s.until
      → IsAlternateType r v (type_by r s.is_daylight)
  pub low : (pos 86400 *ℤ first_day (year -ℤ pos 1)) <ℤ (s.from +ℤ pos 864000)
  pub high : s.until <ℤ (pos 86400 *ℤ first_day (year +ℤ pos 1) +ℤ pos 32400000)

-- the rule has the type throughout a segment, and unless it is empty it is between two of its
-- changes
pub record IsWholeSegment (r : AlternateTime) (s : AlternateSegment) : Type 0 where
  pub from_is : s.from <ℤ s.until → IsRuleChange (Alternate r) s.from
  pub until_is : s.from <ℤ s.until → IsRuleChange (Alternate r) s.until
  pub one_type : (v : ℤ) → s.from ≤ℤ v → v <ℤ s.until
      → IsRuleType (Alternate r) v (type_by r s.is_daylight)
