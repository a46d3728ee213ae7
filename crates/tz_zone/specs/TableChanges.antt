-- Changes of a zone's tables, at which the segments of its clock begin and end. (RFC 8536, section
-- 3.2: transitions, leap-second records; 3.3: the footer; RFC 9636, section 3.2: a truncated
-- start.)
use Rattle.std.specs.Prelude.{◌≡◌, ◌≢◌, ℕ, ◌⊎◌, ℤ, pos, negsuc, ◌+ℤ◌, ◌-ℤ◌, ◌<ℤ◌, List, [], length, Option, Some, None}
use Rattle.tz_rule.specs.RuleSegments.{IsRuleChange}
use Rattle.tz_rule.specs.declared.timezone.transition_rule.TransitionRule.{TransitionRule}
use Rattle.tz_zone.specs.Table.{LeapSecond, Zone}
use Rattle.tz_zone.specs.LeapTime.{IsBeforeStart}
use Rattle.tz_zone.specs.ClockSegments.{IsReachedAt, TakesEffectAt}

-- all transitions are reached at an instant, so that the rule determines the type
abbrev pub IsAfterTransitions : Zone → ℤ → Type 0
IsAfterTransitions z u = (z.transitions ≡ []) ⊎ IsReachedAt z u (length z.transitions)

-- daylight saving time starts or ends by the rule, if there is one, or the rule begins or ceases to
-- answer
abbrev pub IsChangeByRule : Option TransitionRule → ℤ → Type 0
IsChangeByRule (Some rule) u = IsRuleChange rule u
IsChangeByRule None u = ⊥

-- a leap-second table with a truncated start begins
abbrev pub IsTableStart : List LeapSecond → ℤ → Type 0
IsTableStart leaps u = IsBeforeStart leaps (u -ℤ pos 1) × ¬ IsBeforeStart leaps u

-- a change of the tables: some transition takes effect, the rule changes once all are reached, or
-- the leap-second table begins
abbrev pub IsTableChange : Zone → ℤ → Type 0
IsTableChange z u = ((i : ℕ) × TakesEffectAt z u i)
    ⊎ (IsChangeByRule z.extra_rule u × IsAfterTransitions z u) ⊎ IsTableStart z.leap_seconds u

-- leap times there may leave 64 bits
abbrev pub IsFar : List LeapSecond → ℤ → Type 0
IsFar leaps u = (leaps ≢ []) × (pos 80000000000000000 <ℤ u)

-- a span begins and ends with a change of the tables, or with an end of 64 bits; where leap times
-- may leave 64 bits nothing is said
pub record HasTableEnds (z : Zone) (from last : ℤ) : Type 0 where
  pub from_is : from ≢ negsuc 9223372036854775807 → IsTableChange z from ⊎ IsFar z.leap_seconds from
  pub last_is : last ≢ pos 9223372036854775807 → IsTableChange z (last +ℤ pos 1)
      ⊎ IsFar z.leap_seconds (last +ℤ pos 1)
