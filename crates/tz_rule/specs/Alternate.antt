-- What contracts see of an alternate rule, and which type it has at an instant. (POSIX.1-2017, Base
-- Definitions, 8.3: the TZ variable.)
use Rattle.std.specs.Prelude.{◌≡◌, ◌⊎◌, Bool, ℤ, pos, negsuc, ◌+ℤ◌, ◌-ℤ◌, ◌*ℤ◌, ◌≤ℤ◌, ◌<ℤ◌, if◌then◌else◌}
use Rattle.tz_base.specs.Days.{first_day}
use Rattle.tz_base.specs.declared.error.TransitionRuleError.{TransitionRuleError}
use Rattle.tz_base.specs.declared.error.TransitionRuleError.TheVariants.{InvalidStdUtcOffset, InvalidDstUtcOffset, InvalidDstStartEndTime, InconsistentRule}
use Rattle.tz_rule.specs.LocalTimeType.{LocalTimeType}
use Rattle.tz_rule.specs.RuleDays.{rule_day, IsRuleDay}
use Rattle.tz_rule.specs.Pairing.{IsInconsistent, IsDaylight}
use Rattle.tz_rule.specs.declared.timezone.rule_day.RuleDay.{RuleDay}

pub record AlternateTime : Type 0 where
  pub std : LocalTimeType
  pub dst : LocalTimeType
  pub dst_start : RuleDay
  pub dst_start_time : ℤ
  pub dst_end : RuleDay
  pub dst_end_time : ℤ

-- the rule with these parts
abbrev pub alternate_of : LocalTimeType → LocalTimeType → RuleDay → ℤ → RuleDay → ℤ → AlternateTime
alternate_of std dst dst_start dst_start_time dst_end dst_end_time =
    record {
      std = std;
      dst = dst;
      dst_start = dst_start;
      dst_start_time = dst_start_time;
      dst_end = dst_end;
      dst_end_time = dst_end_time;
    }

-- both days are such as their types allow
pub record AreRuleDays (r : AlternateTime) : Type 0 where
  pub start_is : IsRuleDay r.dst_start
  pub end_is : IsRuleDay r.dst_end

-- the instant at which daylight saving time starts in a year: a local time by the standard type
unfoldable pub start_of : AlternateTime → ℤ → ℤ
start_of r year = pos 86400 *ℤ rule_day r.dst_start year +ℤ r.dst_start_time -ℤ r.std.ut_offset

-- the instant at which it ends: a local time by the daylight type
unfoldable pub end_of : AlternateTime → ℤ → ℤ
end_of r year = pos 86400 *ℤ rule_day r.dst_end year +ℤ r.dst_end_time -ℤ r.dst.ut_offset

-- one of the two
abbrev pub switch_of : AlternateTime → Bool → ℤ → ℤ
switch_of r is_end year = if is_end then end_of r year else start_of r year

-- above -25 and below 26 hours
abbrev pub IsRuleOffset : ℤ → Type 0
IsRuleOffset offset = (negsuc 89999 <ℤ offset) × (offset <ℤ pos 93600)

-- less than a week either way
abbrev pub IsRuleTime : ℤ → Type 0
IsRuleTime time = (negsuc 604799 <ℤ time) × (time <ℤ pos 604800)

-- a rule in range
pub record IsInRuleRange (r : AlternateTime) : Type 0 where
  pub std_is : IsRuleOffset r.std.ut_offset
  pub dst_is : IsRuleOffset r.dst.ut_offset
  pub start_is : IsRuleTime r.dst_start_time
  pub end_is : IsRuleTime r.dst_end_time

-- a rule in range whose start and end never change their strict order, whatever the years and their
-- distance
pub record IsConsistentRule (r : AlternateTime) : Type 0 where
  pub in_range : IsInRuleRange r
  pub consistent : ¬ IsInconsistent (start_of r) (end_of r)

-- the fault that is named if several are out of range: the standard offset's, the daylight
-- offset's, and then that of a time
abbrev pub IsRangeFault : AlternateTime → TransitionRuleError → Type 0
IsRangeFault r InvalidStdUtcOffset = ¬ IsRuleOffset r.std.ut_offset
IsRangeFault r InvalidDstUtcOffset = IsRuleOffset r.std.ut_offset × ¬ IsRuleOffset r.dst.ut_offset
IsRangeFault r InvalidDstStartEndTime =
    IsRuleOffset r.std.ut_offset × IsRuleOffset r.dst.ut_offset
    × ¬ (IsRuleTime r.dst_start_time × IsRuleTime r.dst_end_time)
IsRangeFault r _ = ⊥

-- the fault that is named: one of range, or else that the rule is inconsistent
abbrev pub IsFirstRuleFault : AlternateTime → TransitionRuleError → Type 0
IsFirstRuleFault r e = IsRangeFault r e
    ⊎ ((e ≡ InconsistentRule) × IsInRuleRange r × IsInconsistent (start_of r) (end_of r))

-- the year of an instant in UTC
abbrev pub IsUtcYear : ℤ → ℤ → Type 0
IsUtcYear u year = ((pos 86400 *ℤ first_day year) ≤ℤ u)
    × (u <ℤ (pos 86400 *ℤ first_day (year +ℤ pos 1)))

-- years that are two years or more from both ends of 32 bits
abbrev pub IsRuleYear : ℤ → Type 0
IsRuleYear year = (negsuc 2147483645 ≤ℤ year) × (year ≤ℤ pos 2147483645)

-- instants at which a rule is defined, by their year in UTC
abbrev pub IsInRuleYears : ℤ → Type 0
IsInRuleYears u = (year : ℤ) × IsUtcYear u year × IsRuleYear year

-- less than ten days outside a year in UTC
abbrev pub IsNearYear : ℤ → ℤ → Type 0
IsNearYear u year = ((pos 86400 *ℤ first_day year) <ℤ (u +ℤ pos 864000))
    × (u <ℤ (pos 86400 *ℤ first_day (year +ℤ pos 1) +ℤ pos 864000))

-- the type of an alternate rule at an instant
abbrev pub IsAlternateType : AlternateTime → ℤ → LocalTimeType → Type 0
IsAlternateType r u t = (IsDaylight (start_of r) (end_of r) u × (t ≡ r.dst))
    ⊎ (¬ IsDaylight (start_of r) (end_of r) u × (t ≡ r.std))

-- no start and no end is after the first instant, up to the second
pub record IsUnchanged (r : AlternateTime) (u v : ℤ) : Type 0 where
  pub no_start : (y : ℤ) → u <ℤ start_of r y → start_of r y ≤ℤ v → ⊥
  pub no_end : (y : ℤ) → u <ℤ end_of r y → end_of r y ≤ℤ v → ⊥
