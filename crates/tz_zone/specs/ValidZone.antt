-- Which parts make a zone, and which fault is named where they do not. (RFC 8536, section 3.2; the
-- extra rule as in 3.3; leap-second tables that begin later or expire after RFC 9636, section 3.2.)
use Rattle.std.specs.Prelude.{◌≡◌, ◌≢◌, ℕ, ◌+◌, ◌<◌, ◌⊎◌, ℤ, pos, ◌+ℤ◌, ◌-ℤ◌, ◌≤ℤ◌, ◌<ℤ◌, List, [], length, Some, slice_get, FitsSigned}
use Rattle.std.specs.Int.{w32}
use Rattle.std.proofs.Props.{props}
use Rattle.tz_base.specs.declared.error.TzError.{TzError}
use Rattle.tz_base.specs.declared.error.TzError.TheVariants.{TimeZone, OutOfRange}
use Rattle.tz_base.specs.declared.error.TimeZoneError.{TimeZoneError}
use Rattle.tz_base.specs.declared.error.TimeZoneError.TheVariants.{NoLocalTimeType, InvalidLocalTimeTypeIndex, InvalidTransition, InvalidLeapSecond, InconsistentExtraRule}
use Rattle.tz_rule.specs.LocalTimeType.{LocalTimeType}
use Rattle.tz_rule.specs.Rule.{IsRuleType}
use Rattle.tz_rule.specs.declared.timezone.transition_rule.TransitionRule.{TransitionRule}
use Rattle.tz_zone.specs.Table.{Transition, LeapSecond, Zone}
use Rattle.tz_zone.specs.LeapTime.{IsOneSecond, IsStart, IsEffect}
use Rattle.tz_zone.specs.Clock.{IsTypeAt, IsLast}

-- the transition at an index names one of this many types
abbrev pub HasTypeAtIndex : List Transition → ℕ → ℕ → Type 0
HasTypeAtIndex transitions types i = (change : Transition) → slice_get transitions i ≡ Some change
    → change.type_index < types

-- transition i names a type of the zone
abbrev pub HasType : Zone → ℕ → Type 0
HasType z i = HasTypeAtIndex z.transitions (length z.types) i

-- the transition at an index comes before the next one
abbrev pub RisesAtIndex : List Transition → ℕ → Type 0
RisesAtIndex transitions i =
    (change next : Transition) → slice_get transitions i ≡ Some change
    → slice_get transitions (i + 1) ≡ Some next
    → change.unix_leap_time <ℤ next.unix_leap_time

abbrev pub RisesAt : Zone → ℕ → Type 0
RisesAt z i = RisesAtIndex z.transitions i

-- transitions come in order
abbrev pub IsRising : List Transition → Type 0
IsRising transitions = (i : ℕ) → RisesAtIndex transitions i

-- each names one of this many types, and comes before the next one
abbrev pub AreSound : List Transition → ℕ → Type 0
AreSound transitions types =
    (i : ℕ) → HasTypeAtIndex transitions types i × RisesAtIndex transitions i

-- the first leap second comes at 0 or later; its correction may be any of 32 bits
abbrev pub MayBeFirst : LeapSecond → Type 0
MayBeFirst l = (pos 0 ≤ℤ l.unix_leap_time) × FitsSigned w32 l.correction

-- the next one comes at least 2419199 seconds later, and is of one second more or less
abbrev pub MayFollow : LeapSecond → LeapSecond → Type 0
MayFollow l next = ((l.unix_leap_time +ℤ pos 2419199) ≤ℤ next.unix_leap_time)
    × IsOneSecond (next.correction -ℤ l.correction)

-- the record after index i is the table's expiry: the last one, with the correction before it
abbrev pub IsExpiry : List LeapSecond → ℕ → LeapSecond → LeapSecond → Type 0
IsExpiry leaps i l next = (i + 2 ≡ length leaps) × (next.correction ≡ l.correction)

-- the leap time at which the table expires
abbrev pub ExpiresAt : List LeapSecond → ℤ → Type 0
ExpiresAt leaps time =
    (i : ℕ) × (l : LeapSecond) × (next : LeapSecond) × (slice_get leaps i ≡ Some l)
    × (slice_get leaps (i + 1) ≡ Some next)
    × IsExpiry leaps i l next × (time ≡ next.unix_leap_time)

-- a table as files before version 4 have it: it begins with the first leap second, and does not
-- expire
abbrev pub IsPlainTable : List LeapSecond → Type 0
IsPlainTable leaps = ((l : LeapSecond) → ¬ IsStart leaps l) × ((time : ℤ) → ¬ ExpiresAt leaps time)

-- the record after index i comes later and, but for an expiry, is a leap second that may follow
abbrev pub Follows : List LeapSecond → ℕ → LeapSecond → LeapSecond → Type 0
Follows leaps i l next = (l.unix_leap_time <ℤ next.unix_leap_time) × (¬ IsExpiry leaps i l next
    → MayFollow l next)

abbrev pub FollowsAt : List LeapSecond → ℕ → Type 0
FollowsAt leaps i = (l next : LeapSecond) → slice_get leaps i ≡ Some l
    → slice_get leaps (i + 1) ≡ Some next → Follows leaps i l next

-- a list of leap seconds
pub record AreLeapSeconds (leaps : List LeapSecond) : Type 0 where
  pub first : (l : LeapSecond) → slice_get leaps 0 ≡ Some l → MayBeFirst l
  pub apart : (i : ℕ) → FollowsAt leaps i

-- a truncated start is reached at a leap time
abbrev pub HasBegunAt : List LeapSecond → ℤ → Type 0
HasBegunAt leaps v = (l : LeapSecond) → IsStart leaps l → l.unix_leap_time ≤ℤ v

-- what the extra rule answers where a leap time takes effect
abbrev pub IsRuleTypeAt : List LeapSecond → TransitionRule → ℤ → LocalTimeType → Type 0
IsRuleTypeAt leaps rule v t = (u : ℤ) × IsEffect leaps v u × IsRuleType rule u t

-- where a zone has an extra rule, and a last transition that is not before a truncated start
abbrev pub AtLast : Zone → (TransitionRule → Transition → Type 0) → Type 0
AtLast z P =
    (rule : TransitionRule) (last : Transition) → z.extra_rule ≡ Some rule
    → IsLast z.transitions last → HasBegunAt z.leap_seconds last.unix_leap_time
    → P rule last

-- the rule answers at the last transition
abbrev pub RuleAnswers : Zone → Type 0
RuleAnswers z = AtLast z (λ rule last. (t : LocalTimeType)
    × IsRuleTypeAt z.leap_seconds rule last.unix_leap_time t)

-- what it answers is the transition's type
abbrev pub RuleAgrees : Zone → Type 0
RuleAgrees z = AtLast z (λ rule last. (t : LocalTimeType)
    → IsRuleTypeAt z.leap_seconds rule last.unix_leap_time t → IsTypeAt z last.type_index t)

-- the first fault of the transitions in turn: at each its type, and then its order
abbrev pub IsFirstTransitionFault : List Transition → ℕ → TimeZoneError → Type 0
IsFirstTransitionFault transitions types e =
    (i : ℕ) × ((j : ℕ) → j < i → HasTypeAtIndex transitions types j × RisesAtIndex transitions j)
    × (((e ≡ InvalidLocalTimeTypeIndex) × ¬ HasTypeAtIndex transitions types i)
    ⊎ ((e ≡ InvalidTransition) × HasTypeAtIndex transitions types i × ¬ RisesAtIndex transitions i))

-- there are types, transitions name them and rise, and leap seconds are such
pub record IsSoundTable (z : Zone) : Type 0 where
  pub has_types : z.types ≢ []
  pub transitions_are : (i : ℕ) → HasType z i × RisesAt z i
  pub leap_seconds_are : AreLeapSeconds z.leap_seconds

-- parts that make a zone
pub record IsValidZone (z : Zone) : Type 0 where
  pub table : IsSoundTable z
  pub rule_answers : RuleAnswers z
  pub rule_agrees : RuleAgrees z

-- the fault of the extra rule: it has no answer at the last transition, or another type
abbrev pub IsRuleFault : Zone → TzError → Type 0
IsRuleFault z e = ((e ≡ OutOfRange) × ¬ RuleAnswers z)
    ⊎ ((e ≡ TimeZone InconsistentExtraRule) × RuleAnswers z × ¬ RuleAgrees z)

-- the fault that is named where there are several: types, each transition in turn, leap seconds,
-- and then the rule
abbrev pub IsFirstZoneFault : Zone → TzError → Type 0
IsFirstZoneFault z e =
    ((e ≡ TimeZone NoLocalTimeType) × (z.types ≡ []))
    ⊎ ((z.types ≢ []) × (fault : TimeZoneError) × (e ≡ TimeZone fault)
    × IsFirstTransitionFault z.transitions (length z.types) fault)
    ⊎ ((e ≡ TimeZone InvalidLeapSecond) × (z.types ≢ []) × ((i : ℕ) → HasType z i × RisesAt z i)
    × ¬ AreLeapSeconds z.leap_seconds)
    ⊎ (IsSoundTable z × IsRuleFault z e)

-- that a table is sound has one proof
pub IsSoundTable-prop : (z : Zone) → IsProp (IsSoundTable z)
IsSoundTable-prop z = hlevel props
