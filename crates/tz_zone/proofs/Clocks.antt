-- The clock of a zone with transitions, from the leap time of the instant.
use Rattle.tz_zone.proofs.Common.{◌≡◌, arith, ℕ, ints, sym, inr, inl, ℤ, ◌∙◌, ap, List, ◌≤ℤ◌, Some, ◌<ℤ◌, ◌-◌, LocalTimeType, Zone, [], Option, ◌≢◌, None, same_Some, ◌⊎◌, AreLeapSeconds, IsClock, TransitionRule, Transition, cases_lt, IsLeapTimeRefused, AreReached, IsLeapTime, IsTypeOfLast, IsTypeAt, IsTypeWithout, IsTypeAfter, TzError, none-some, AreAhead, IsLast, IsFaultAfter, IsLookupFault, IsTransitionType, OutOfRange, rule_type_unique, IsOver, IsTypeWith}
use Rattle.tz_zone.proofs.LeapTimes.{one_leap_time}

pub last_unique : (transitions : List Transition) (last last' : Transition) → IsLast transitions last
    → IsLast transitions last' → last ≡ last'
last_unique transitions last last' at at' = same_Some last last' (sym at ∙ at')

-- where some transition is the last, there are some
pub some_from_last : (transitions : List Transition) (last : Transition) → IsLast transitions last → transitions ≢ []
some_from_last transitions last at e = none-some last (rw e at at)

-- without transitions
pub fault_without : (z : Zone) → z.transitions ≡ [] → (u : ℤ) (e : TzError) → e ≡ OutOfRange
    → ((t : LocalTimeType) → ¬ IsTypeWithout z z.extra_rule u t) → IsLookupFault z u e
fault_without z none u e is never = inr (is, no_type, not_over)
  where
    no_type : (t : LocalTimeType) → ¬ IsClock z u t
    no_type t (inl (without, type)) = never t type
    no_type t (inr (last, is_last, type)) = some_from_last z.transitions last is_last none

    not_over : ¬ IsOver z u
    not_over (last, l, is_last, leap, from, rule) = some_from_last z.transitions last is_last none

-- the count of transitions that are reached determines the last one that is
pub transition_type_of_last : (z : Zone) (l : ℤ) (k : ℕ) (t : LocalTimeType) → AreReached z.transitions l k
    → AreAhead z.transitions l k → IsTypeOfLast z k t → IsTransitionType z l t
transition_type_of_last z l k t reached ahead (inl (none, type)) =
    inl ((λ i change at. ahead i change (omega (arith, none)) at), type)
transition_type_of_last z l k t reached ahead (inr (some, change, at, type)) =
    inr (
      k - 1,
      change,
      (
        at,
        reached (k - 1) change (omega (arith, some)) at,
        (λ j next above at_next. ahead j next
            (omega (arith, some, above)) at_next),
      ),
      type,
    )

module _ (z : Zone) (are : AreLeapSeconds z.leap_seconds) (last : Transition) (is_last : IsLast z.transitions last)
    (u l : ℤ) (leap : IsLeapTime z.leap_seconds u l) where
  pub clock_before_last : (t : LocalTimeType) → l <ℤ last.unix_leap_time → IsTransitionType z l t → IsClock z u t
  clock_before_last t before type = inr (last, is_last, (l, leap, inl (before, type)))

  pub clock_from_last : (t : LocalTimeType) → last.unix_leap_time ≤ℤ l → IsTypeAfter z.extra_rule u t → IsClock z u t
  clock_from_last t from type = inr (last, is_last, (l, leap, inr (from, type)))

  -- from the last transition on the clock is that of the rule
  pub type_after_from_clock : (t : LocalTimeType) → last.unix_leap_time ≤ℤ l → IsClock z u t
      → IsTypeAfter z.extra_rule u t
  type_after_from_clock t from (inl (none, type)) = absurd (some_from_last z.transitions last is_last none)
  type_after_from_clock t from (inr (last', is_last', (l', leap', inl (before, type)))) =
      absurd (omega (
        arith,
        ints,
        from,
        before,
        one_leap_time z.leap_seconds u l l' leap leap',
        ap (λ c. c.unix_leap_time)
            (last_unique z.transitions last last' is_last is_last'),
      ))
  type_after_from_clock t from (inr (last', is_last', (l', leap', inr (from', type)))) = type

  pub fault_from_last : (e : TzError) → last.unix_leap_time ≤ℤ l → IsFaultAfter z.extra_rule u e → IsLookupFault z u e
  fault_from_last e from (inl (fault, none)) = inl (fault, (last, l, is_last, leap, from, none))
  fault_from_last e from (inr (fault, some, no_type)) =
      inr (fault, (λ t clock. no_type t (type_after_from_clock t from clock)), (λ over. some over.5))

-- where the instant has no leap time, a zone with transitions has no type
pub fault_from_refused : (z : Zone) (last : Transition) → IsLast z.transitions last → (u : ℤ)
    → IsLeapTimeRefused z.leap_seconds u → (e : TzError) → e ≡ OutOfRange → IsLookupFault z u e
fault_from_refused z last is_last u refused e is = inr (is, no_type, not_over)
  where
    no_type : (t : LocalTimeType) → ¬ IsClock z u t
    no_type t (inl (none, type)) = some_from_last z.transitions last is_last none
    no_type t (inr (last', is_last', (l, leap, side))) = leap.not_refused refused

    not_over : ¬ IsOver z u
    not_over (last', l, is_last', leap, from, none) = leap.not_refused refused

-- a zone has one type with a number
type_at_unique : (z : Zone) (i : ℕ) (t t' : LocalTimeType) → IsTypeAt z i t → IsTypeAt z i t' → t ≡ t'
type_at_unique z i t t' at at' = same_Some t t' (sym at ∙ at')

-- at a leap time the transitions give one type
pub transition_type_unique : (z : Zone) (l : ℤ) (t t' : LocalTimeType) → IsTransitionType z l t
    → IsTransitionType z l t' → t ≡ t'
transition_type_unique z l t t' (inl (before, type)) (inl (before', type')) = type_at_unique z 0 t t' type type'
transition_type_unique z l t t' (inl (before, type)) (inr (i, change, (at, reached, later), type')) =
    absurd (omega (arith, ints, before i change at, reached))
transition_type_unique z l t t' (inr (i, change, (at, reached, later), type)) (inl (before, type')) =
    absurd (omega (arith, ints, before i change at, reached))
transition_type_unique z l t t' (inr (i, change, (at, reached, later), type))
    (inr (j, change', (at', reached', later'), type')) =
    elim (cases_lt i j) [
      | inl below ↦ absurd (omega (arith, ints, later j change' below at', reached'))
      | inr above ↦ elim (cases_lt j i) [
        | inl below ↦ absurd (omega (arith, ints, later' i change below at, reached))
        | inr above' ↦
            let same : j ≡ i = omega arith in
            let change_same : change' ≡ change = same_Some change' change (sym at' ∙ rw same at) in
            type_at_unique z change.type_index t t' type (rw change_same at type')
      ]
    ]

type_after_unique : (rule : Option TransitionRule) (u : ℤ) (t t' : LocalTimeType) → IsTypeAfter rule u t
    → IsTypeAfter rule u t' → t ≡ t'
type_after_unique (Some rule) u t t' a b = rule_type_unique rule u t t' a b
type_after_unique None u t t' a b = absurd a

type_without_unique : (z : Zone) (rule : Option TransitionRule) (u : ℤ) (t t' : LocalTimeType)
    → IsTypeWithout z rule u t → IsTypeWithout z rule u t' → t ≡ t'
type_without_unique z (Some rule) u t t' a b = rule_type_unique rule u t t' a b
type_without_unique z None u t t' a b = type_at_unique z 0 t t' a b

type_with_unique : (z : Zone) (last : Transition) (u : ℤ) (t t' : LocalTimeType) → IsTypeWith z last u t
    → IsTypeWith z last u t' → t ≡ t'
type_with_unique z last u t t' (l, leap, side) (l', leap', side') =
    let same : l' ≡ l = one_leap_time z.leap_seconds u l' l leap' leap in
    sides side (rw same at side')
  where
    sides : ((l <ℤ last.unix_leap_time) × IsTransitionType z l t)
        ⊎ ((last.unix_leap_time ≤ℤ l) × IsTypeAfter z.extra_rule u t)
        → ((l <ℤ last.unix_leap_time) × IsTransitionType z l t')
        ⊎ ((last.unix_leap_time ≤ℤ l) × IsTypeAfter z.extra_rule u t') → t ≡ t'
    sides (inl (before, type)) (inl (before', type')) = transition_type_unique z l t t' type type'
    sides (inl (before, type)) (inr (from, type')) = absurd (omega (arith, ints, before, from))
    sides (inr (from, type)) (inl (before, type')) = absurd (omega (arith, ints, before, from))
    sides (inr (from, type)) (inr (from', type')) = type_after_unique z.extra_rule u t t' type type'

-- a clock has one type at an instant, whatever the zone
pub one_type : (z : Zone) (u : ℤ) (t t' : LocalTimeType) → IsClock z u t → IsClock z u t' → t ≡ t'
one_type z u t t' (inl (none, type)) (inl (none', type')) = type_without_unique z z.extra_rule u t t' type type'
one_type z u t t' (inl (none, type)) (inr (last, is_last, type')) =
    absurd (some_from_last z.transitions last is_last none)
one_type z u t t' (inr (last, is_last, type)) (inl (none, type')) =
    absurd (some_from_last z.transitions last is_last none)
one_type z u t t' (inr (last, is_last, type)) (inr (last', is_last', type')) =
    type_with_unique z last u t t' type (rw (last_unique z.transitions last' last is_last' is_last) at type')

pub clock_unique : (z : Zone) (u : ℤ) (t t' : LocalTimeType) → AreLeapSeconds z.leap_seconds → IsClock z u t
    → IsClock z u t' → t ≡ t'
clock_unique z u t t' are type type' = one_type z u t t' type type'
