-- The clock of a zone: which local time type it has at an instant, if any. (RFC 8536, section 3.2:
-- transition times and types; 3.3: the footer.)
use Rattle.std.specs.Prelude.{◌≡◌, ◌≢◌, ℕ, ◌-◌, ◌<◌, ◌≤◌, ◌⊎◌, ℤ, ◌≤ℤ◌, ◌<ℤ◌, List, [], length, Bool, Option, Some, None, MatchBool, slice_get}
use Rattle.tz_base.specs.declared.error.TzError.{TzError}
use Rattle.tz_base.specs.declared.error.TzError.TheVariants.{OutOfRange, NoAvailableLocalTimeType}
use Rattle.tz_rule.specs.LocalTimeType.{LocalTimeType}
use Rattle.tz_rule.specs.Rule.{IsRuleType}
use Rattle.tz_rule.specs.declared.timezone.transition_rule.TransitionRule.{TransitionRule}
use Rattle.tz_zone.specs.Table.{Transition, Zone}
use Rattle.tz_zone.specs.LeapTime.{IsLeapTime}

-- the type with a number
abbrev pub IsTypeAt : Zone → ℕ → LocalTimeType → Type 0
IsTypeAt z i t = slice_get z.types i ≡ Some t

-- the first k transitions are reached at a leap time: their times are not above it
abbrev pub AreReached : List Transition → ℤ → ℕ → Type 0
AreReached transitions l k = (i : ℕ) (change : Transition) → i < k
    → slice_get transitions i ≡ Some change → change.unix_leap_time ≤ℤ l

-- the transitions from number k on are ahead of a leap time
abbrev pub AreAhead : List Transition → ℤ → ℕ → Type 0
AreAhead transitions l k = (i : ℕ) (change : Transition) → k ≤ i
    → slice_get transitions i ≡ Some change → l <ℤ change.unix_leap_time

-- a leap time lies at a position: so many transitions are reached, and the others are ahead
abbrev pub IsPositionAt : List Transition → ℤ → ℕ → Type 0
IsPositionAt transitions l k = AreReached transitions l k × AreAhead transitions l k

-- transition i is the last that is reached at a leap time
abbrev pub IsLastReached : List Transition → ℤ → ℕ → Transition → Type 0
IsLastReached transitions l i change =
    (slice_get transitions i ≡ Some change) × (change.unix_leap_time ≤ℤ l)
    × ((j : ℕ) (later : Transition) → i < j → slice_get transitions j ≡ Some later
    → l <ℤ later.unix_leap_time)

-- no transition is reached at a leap time
abbrev pub IsBeforeAll : List Transition → ℤ → Type 0
IsBeforeAll transitions l = (i : ℕ) (change : Transition) → slice_get transitions i ≡ Some change
    → l <ℤ change.unix_leap_time

-- the type of the last transition that is reached, or type number 0 before the first
abbrev pub IsTransitionType : Zone → ℤ → LocalTimeType → Type 0
IsTransitionType z l t =
    (IsBeforeAll z.transitions l × IsTypeAt z 0 t)
    ⊎ ((i : ℕ) × (change : Transition) × IsLastReached z.transitions l i change
    × IsTypeAt z change.type_index t)

-- the type of the last of the first k transitions, or type number 0 where k is 0
abbrev pub IsTypeOfLast : Zone → ℕ → LocalTimeType → Type 0
IsTypeOfLast z k t =
    ((k ≡ 0) × IsTypeAt z 0 t)
    ⊎ ((k ≢ 0) × (change : Transition) × (slice_get z.transitions (k - 1) ≡ Some change)
    × IsTypeAt z change.type_index t)

-- the last transition
abbrev pub IsLast : List Transition → Transition → Type 0
IsLast transitions last = slice_get transitions (length transitions - 1) ≡ Some last

-- the type from the last transition on: the extra rule's, and none without a rule
abbrev pub IsTypeAfter : Option TransitionRule → ℤ → LocalTimeType → Type 0
IsTypeAfter (Some rule) u t = IsRuleType rule u t
IsTypeAfter None u t = ⊥

-- why there is no type from the last transition on: there is no rule, or the rule has no answer
abbrev pub IsFaultAfter : Option TransitionRule → ℤ → TzError → Type 0
IsFaultAfter rule u e = ((e ≡ NoAvailableLocalTimeType) × (rule ≡ None))
    ⊎ ((e ≡ OutOfRange) × (rule ≢ None) × ((t : LocalTimeType) → ¬ IsTypeAfter rule u t))

-- the type of a zone without transitions: the extra rule's, or type number 0
abbrev pub IsTypeWithout : Zone → Option TransitionRule → ℤ → LocalTimeType → Type 0
IsTypeWithout z (Some rule) u t = IsRuleType rule u t
IsTypeWithout z None u t = IsTypeAt z 0 t

-- the type after the last transition, or of a zone that has none
abbrev pub IsTypeAfterTable : Bool → Zone → ℤ → LocalTimeType → Type 0
IsTypeAfterTable is_empty z u t =
    MatchBool is_empty (IsTypeWithout z z.extra_rule u t) (IsTypeAfter z.extra_rule u t)

-- the type of a zone with transitions, by the leap time of the instant
abbrev pub IsTypeWith : Zone → Transition → ℤ → LocalTimeType → Type 0
IsTypeWith z last u t =
    (l : ℤ) × IsLeapTime z.leap_seconds u l
    × (((l <ℤ last.unix_leap_time) × IsTransitionType z l t)
    ⊎ ((last.unix_leap_time ≤ℤ l) × IsTypeAfter z.extra_rule u t))

-- the clock of the zone has the type at the instant
abbrev pub IsClock : Zone → ℤ → LocalTimeType → Type 0
IsClock z u t = ((z.transitions ≡ []) × IsTypeWithout z z.extra_rule u t)
    ⊎ ((last : Transition) × IsLast z.transitions last × IsTypeWith z last u t)

-- the zone is over: its last transition is reached, and no rule goes on
abbrev pub IsOver : Zone → ℤ → Type 0
IsOver z u = (last : Transition) × (l : ℤ) × IsLast z.transitions last
    × IsLeapTime z.leap_seconds u l × (last.unix_leap_time ≤ℤ l) × (z.extra_rule ≡ None)

abbrev pub HasNoType : Zone → ℤ → Type 0
HasNoType z u = (t : LocalTimeType) → ¬ IsClock z u t

-- why a lookup is refused: the zone is over, and otherwise a time is out of range
abbrev pub IsLookupFault : Zone → ℤ → TzError → Type 0
IsLookupFault z u e = ((e ≡ NoAvailableLocalTimeType) × IsOver z u)
    ⊎ ((e ≡ OutOfRange) × HasNoType z u × ¬ IsOver z u)
