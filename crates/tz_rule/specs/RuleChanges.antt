-- Changes of a rule: instants at which it has another type than at the instant before.
-- (POSIX.1-2017, Base Definitions, 8.3: the TZ variable.)
use Rattle.std.specs.Prelude.{◌≡◌, ◌≢◌, not, Bool, ℤ, pos, negsuc, ◌-ℤ◌, ◌≤ℤ◌, ◌<ℤ◌}
use Rattle.tz_rule.specs.LocalTimeType.{LocalTimeType}
use Rattle.tz_rule.specs.Alternate.{AlternateTime}
use Rattle.tz_rule.specs.RuleSegments.{type_by}
use Rattle.tz_rule.specs.Rule.{IsRuleType}
use Rattle.tz_rule.specs.declared.timezone.transition_rule.TransitionRule.{TransitionRule}
use Rattle.tz_rule.specs.declared.timezone.transition_rule.TransitionRule.TheVariants.{Alternate}
use Rattle.tz_rule.specs.declared.timezone.rule_changes.RuleChange.{RuleChange}

-- what contracts see of a change: its instant, and the types at the instant before and at it
pub record TypeChange : Type 0 where
  pub unix_time : ℤ
  pub before : LocalTimeType
  pub after : LocalTimeType

abbrev pub type_change_of : RuleChange → TypeChange
type_change_of c = record { unix_time = c.unix_time; before = c.before.now; after = c.after.now }

-- the rule changes at an instant: it has one type at the instant before, which is one of 64 bits as
-- well, and another type at it
pub record IsTypeChange (rule : TransitionRule) (c : TypeChange) : Type 0 where
  pub not_least : negsuc 9223372036854775807 <ℤ c.unix_time
  pub up_to : c.unix_time ≤ℤ pos 9223372036854775807
  pub before_is : IsRuleType rule (c.unix_time -ℤ pos 1) c.before
  pub after_is : IsRuleType rule c.unix_time c.after
  pub differ : c.before ≢ c.after

-- the rule changes nowhere after the first instant, up to the second
abbrev pub HasNoTypeChange : TransitionRule → ℤ → ℤ → Type 0
HasNoTypeChange rule low high = (c : TypeChange) → low <ℤ c.unix_time → c.unix_time ≤ℤ high
    → ¬ IsTypeChange rule c

-- the first change after an instant
pub record IsChangeAfter (rule : TransitionRule) (u : ℤ) (c : TypeChange) : Type 0 where
  pub is : IsTypeChange rule c
  pub above : u <ℤ c.unix_time
  pub least : HasNoTypeChange rule u (c.unix_time -ℤ pos 1)

-- the last change up to an instant
pub record IsChangeUpTo (rule : TransitionRule) (u : ℤ) (c : TypeChange) : Type 0 where
  pub is : IsTypeChange rule c
  pub up_to : c.unix_time ≤ℤ u
  pub greatest : HasNoTypeChange rule c.unix_time u

-- no change comes after an instant
abbrev pub HasNoChangeAfter : TransitionRule → ℤ → Type 0
HasNoChangeAfter rule u = (c : TypeChange) → u <ℤ c.unix_time → ¬ IsTypeChange rule c

-- no change comes up to an instant
abbrev pub HasNoChangeUpTo : TransitionRule → ℤ → Type 0
HasNoChangeUpTo rule u = (c : TypeChange) → c.unix_time ≤ℤ u → ¬ IsTypeChange rule c

-- the rule has the same type wherever it has one
abbrev pub HasOneType : TransitionRule → Type 0
HasOneType rule = (u v : ℤ) (s t : LocalTimeType) → IsRuleType rule u s → IsRuleType rule v t
    → s ≡ t

-- daylight saving time starts or ends at an instant after another one, and the rule has one type
-- from that one up to it
pub record IsSwitchAfter (r : AlternateTime) (u switch : ℤ) (is_start : Bool) : Type 0 where
  pub above : u <ℤ switch
  pub before_is : (v : ℤ) → u ≤ℤ v → v <ℤ switch
      → IsRuleType (Alternate r) v (type_by r (not is_start))
  pub after_is : IsRuleType (Alternate r) switch (type_by r is_start)

-- daylight saving time starts or ends at an instant up to another one, and the rule has one type
-- from it up to that one
pub record IsSwitchUpTo (r : AlternateTime) (u switch : ℤ) (is_start : Bool) : Type 0 where
  pub up_to : switch ≤ℤ u
  pub before_is : IsRuleType (Alternate r) (switch -ℤ pos 1) (type_by r (not is_start))
  pub after_is : (v : ℤ) → switch ≤ℤ v → v ≤ℤ u → IsRuleType (Alternate r) v (type_by r is_start)
