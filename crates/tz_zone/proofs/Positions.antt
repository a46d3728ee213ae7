-- Positions: which instants lie at one, and the type of the clock there.
use Rattle.tz_zone.proofs.Common.{◌≡◌, arith, ℕ, ints, refl, sym, inr, inl, length, ℤ, ◌∙◌, subst, ◌<◌, ap, List, ◌≤ℤ◌, Some, ◌<ℤ◌, ◌-◌, ◌≤◌, LocalTimeType, Zone, [], ◌+◌, Option, by_lt_z, slice_get, slice_get_within, ◌≢◌, None, same_Some, ◌∷◌, IsReachedAt, suc, IsClock, IsWideEffect, TransitionRule, zero, Transition, eqb, MatchOption, get_or, IsLeapTime, IsTimeReached, IsTypeOfLast, IsSoundTable, IsTypeAt, IsTypeWithout, IsTypeAfter, TzError, nil_from_length, none-some, slice_get-get_or, IsBefore, IsLast, IsTypeAfterTable, eqb-suc-zero, IsFaultAfter, IsLookupFault, IsPositionAt, OutOfRange, from_start, NoAvailableLocalTimeType, SFits, w64, to_z, of_z, to_z-of_z}
use Rattle.tz_zone.proofs.EmptyLists.{length_of_some}
use Rattle.tz_zone.proofs.LeapTimes.{leap_time_mono, one_leap_time}
use Rattle.tz_zone.proofs.RisingTimes.{rising, ahead_from, reached_later, reached_through}
use Rattle.tz_zone.proofs.Clocks.{transition_type_of_last, clock_before_last, clock_from_last, type_after_from_clock, fault_from_last, fault_without}
use Rattle.tz_zone.proofs.InstantsWithLeapTime.{by_count, leap_unless_refused, defined_between, effect_ahead, reached_from}

-- where the leap time of an instant lies, the instant lies
pub reached_at : (z : Zone) (u l : ℤ) (k : ℕ) → IsLeapTime z.leap_seconds u l → IsPositionAt z.transitions l k
    → IsReachedAt z u k
reached_at z u l k leap at = record { time = l; time_is = leap; reached = at.0; ahead = at.1 }

-- so it does at the position that a search finds in a list that has these transitions
pub found_at : (z : Zone) (u l : ℤ) {list : List Transition} (k : ℕ) → SFits w64 u → SFits w64 l
    → list ≡ z.transitions → IsLeapTime z.leap_seconds (to_z w64 (of_z w64 u)) l
    → IsPositionAt list (to_z w64 (of_z w64 l)) k → IsReachedAt z u k
found_at z u l k u_fits l_fits same leap at =
    reached_at z u l k (rw (to_z-of_z w64 u u_fits) at leap) (rw (same, to_z-of_z w64 l l_fits) at at)

module _ (z : Zone) (sound : IsSoundTable z) where
  -- the last transition
  last : 0 < length z.transitions → (last : Transition) × IsLast z.transitions last
  last some = (
    get_or z.transitions (length z.transitions - 1) from_start,
    slice_get-get_or z.transitions
        (length z.transitions - 1) from_start (omega (arith, some)),
  )

  -- the transition before a position has a type of the zone, which is that at the position
  pub names_type : (k : ℕ) (before : Transition) → IsBefore z.transitions k before → before.type_index < length z.types
  names_type k before (inl (none, is)) = omega (
    arith,
    ap (λ (change : Transition). change.type_index) is,
    length_of_some z.types sound.has_types,
  )
  names_type k before (inr (some, at)) = (sound.transitions_are (k - 1)).0 before at

  pub type_of_before : (k : ℕ) (before : Transition) (t : LocalTimeType) → IsBefore z.transitions k before
      → IsTypeAt z before.type_index t → IsTypeOfLast z k t
  type_of_before k before t (inl (none, is)) type =
      inl (none, subst (λ (change : Transition). IsTypeAt z change.type_index t) is type)
  type_of_before k before t (inr (some, at)) type = inr (some, before, at, type)

  -- before the last transition the clock has the type of the last one that is reached
  pub clock_at_position : (k : ℕ) (v : ℤ) (t : LocalTimeType) → k < length z.transitions → IsReachedAt z v k
      → IsTypeOfLast z k t → IsClock z v t
  clock_at_position k v t inside at type =
      let (end, is_last) = last (omega (arith, inside)) in
      clock_before_last z sound.leap_seconds_are end is_last v at.time at.time_is t
      (at.ahead (length z.transitions - 1) end (omega (arith, inside)) is_last)
      (transition_type_of_last z at.time k t at.reached at.ahead type)

  -- from the last one on it is that of the rule
  pub clock_after_position : (v : ℤ) (t : LocalTimeType) → 0 < length z.transitions
      → IsReachedAt z v (length z.transitions) → IsTypeAfter z.extra_rule v t → IsClock z v t
  clock_after_position v t some at type =
      let (end, is_last) = last some in
      clock_from_last z sound.leap_seconds_are end is_last v at.time at.time_is t
      (at.reached (length z.transitions - 1) end (omega (arith, some)) is_last) type

  pub type_after_position : (v : ℤ) (t : LocalTimeType) → 0 < length z.transitions
      → IsReachedAt z v (length z.transitions) → IsClock z v t → IsTypeAfter z.extra_rule v t
  type_after_position v t some at clock =
      let (end, is_last) = last some in
      type_after_from_clock z sound.leap_seconds_are end is_last v at.time at.time_is t
      (at.reached (length z.transitions - 1) end (omega (arith, some)) is_last) clock

  pub fault_after_position : (v : ℤ) (e : TzError) → 0 < length z.transitions → IsReachedAt z v (length z.transitions)
      → IsFaultAfter z.extra_rule v e → IsLookupFault z v e
  fault_after_position v e some at fault =
      let (end, is_last) = last some in
      fault_from_last z sound.leap_seconds_are end is_last v at.time at.time_is e
      (at.reached (length z.transitions - 1) end (omega (arith, some)) is_last) fault

  -- a transition after the position of an instant is not reached there
  pub not_reached : (u : ℤ) (k i : ℕ) (next : Transition) → IsReachedAt z u k → k ≤ i
      → slice_get z.transitions i ≡ Some next → ¬ IsTimeReached z.leap_seconds next.unix_leap_time u
  not_reached u k i next at from at_i reached =
      let same = one_leap_time z.leap_seconds u at.time reached.0 at.time_is reached.1 in
      absurd (omega (arith, ints, at.ahead i next from at_i, reached.2, same))

  -- a position at which some instant lies, and after which no transition is reached later, is that of the later instant
  pub position_later : (k : ℕ) (low v l : ℤ) → IsReachedAt z low k → low ≤ℤ v → IsLeapTime z.leap_seconds v l
      → ((next : Transition) → slice_get z.transitions k ≡ Some next → l <ℤ next.unix_leap_time) → IsReachedAt z v k
  position_later k low v l at order leap before = record {
    time = l;
    time_is = leap;
    reached = reached_later z.transitions k at.time l at.reached
        (leap_time_mono z.leap_seconds sound.leap_seconds_are low v at.time l order at.time_is leap);
    ahead = λ i change from at_i.
        let next = slice_get-get_or z.transitions k change
        (omega (arith, from, slice_get_within z.transitions i change at_i)) in
        ahead_from z.transitions (rising z sound) l k (get_or z.transitions k change) next
        (before (get_or z.transitions k change) next) i change from at_i;
  }

  -- from a transition up to the next one instants lie at the position between them
  pub position_after : (k : ℕ) (v l : ℤ) (next later : Transition) → IsLeapTime z.leap_seconds v l
      → slice_get z.transitions k ≡ Some next → next.unix_leap_time ≤ℤ l → slice_get z.transitions (k + 1) ≡ Some later
      → l <ℤ later.unix_leap_time → IsReachedAt z v (k + 1)
  position_after k v l next later leap at from after before = record {
    time = l;
    time_is = leap;
    reached = reached_through z.transitions (rising z sound) l k next at from;
    ahead = ahead_from z.transitions (rising z sound) l (k + 1) later after before;
  }

  -- while leap time stays before the next transition the clock has one type
  pub type_while_before : (k : ℕ) (low high : ℤ) → IsReachedAt z low k → (next : Transition) (t : LocalTimeType)
      → slice_get z.transitions k ≡ Some next
      → ((v : ℤ) → low ≤ℤ v → v ≤ℤ high → (l : ℤ) × IsLeapTime z.leap_seconds v l × (l <ℤ next.unix_leap_time))
      → IsTypeOfLast z k t
      → (v : ℤ) → low ≤ℤ v → v ≤ℤ high → IsClock z v t
  type_while_before k low high at next t at_next before type v from to =
      let here = before v from to in
      clock_at_position k v t (slice_get_within z.transitions k next at_next)
      (position_later k low v here.0 at from here.1
      (λ other at_k. rw (same_Some other next (sym at_k ∙ at_next)) here.2)) type

  module _ (k : ℕ) (low high h : ℤ) (at : IsReachedAt z low k) (leap : IsLeapTime z.leap_seconds high h) where
    -- instants between two that have a leap time have one
    leap_between : (v : ℤ) → low ≤ℤ v → v ≤ℤ high → (l : ℤ) × IsLeapTime z.leap_seconds v l × (l ≤ℤ h)
    leap_between v from to =
        let here = leap_unless_refused z.leap_seconds sound.leap_seconds_are v
        (defined_between z.leap_seconds sound.leap_seconds_are low high v at.time_is.not_refused leap.not_refused
        from to) in
        (here.0, here.1, leap_time_mono z.leap_seconds sound.leap_seconds_are v high here.0 h to here.1 leap)

    -- where no transition is left, all are reached from then on
    pub position_through : k ≡ length z.transitions → (v : ℤ) → low ≤ℤ v → v ≤ℤ high → IsReachedAt z v k
    position_through all v from to =
        let here = leap_between v from to in
        position_later k low v here.0 at from here.1
        (λ next at_k. absurd (omega (arith, all, slice_get_within z.transitions k next at_k)))

    -- up to the next transition the clock has one type
    pub one_type : (next : Transition) (t : LocalTimeType) → slice_get z.transitions k ≡ Some next
        → h <ℤ next.unix_leap_time → IsTypeOfLast z k t → (v : ℤ) → low ≤ℤ v → v ≤ℤ high → IsClock z v t
    one_type next t at_next before type v from to =
        let here = leap_between v from to in
        clock_at_position k v t (slice_get_within z.transitions k next at_next)
        (position_later k low v here.0 at from here.1 (λ other at_k. rw (same_Some other next (sym at_k ∙ at_next))
        (omega (arith, ints, here.2, before)))) type

    -- around the next transition it has two, if the one after that comes later
    module _ (next later : Transition) (jump : ℤ) (before after : LocalTimeType) (at_next : slice_get z.transitions k
        ≡ Some next) (at_later : slice_get z.transitions (k + 1) ≡ Some later)
        (reached : next.unix_leap_time ≤ℤ h) (ahead : h <ℤ later.unix_leap_time)
        (wide : IsWideEffect z.leap_seconds next.unix_leap_time jump) where
      jump_above : low <ℤ jump
      jump_above = effect_ahead z.leap_seconds sound.leap_seconds_are low next.unix_leap_time jump
          at.time_is.not_refused (not_reached low k k next at (omega arith) at_next) wide

      jump_up_to : jump ≤ℤ high
      jump_up_to = wide.least high (h, leap, reached)

      type_before_jump : IsTypeOfLast z k before → (v : ℤ) → low ≤ℤ v → v <ℤ jump → IsClock z v before
      type_before_jump type v from until =
          let here = leap_between v from (omega (arith, ints, until, jump_up_to)) in
          clock_at_position k v before (slice_get_within z.transitions k next at_next)
          (position_later k low v here.0 at from here.1 (λ other at_k.
          rw (same_Some other next (sym at_k ∙ at_next))
          (by_lt_z here.0 next.unix_leap_time (λ e. e)
          (λ e. absurd (omega (arith, ints, wide.least v (here.0, here.1, e), until)))))) type

      type_from_jump : IsTypeAt z next.type_index after → (v : ℤ) → jump ≤ℤ v → v ≤ℤ high → IsClock z v after
      type_from_jump type v from to =
          let here = leap_between v (omega (arith, ints, from, jump_above)) to in
          let there = reached_from z.leap_seconds sound.leap_seconds_are next.unix_leap_time jump v wide
          here.1.not_refused from in
          let since : next.unix_leap_time ≤ℤ here.0 =
          omega (arith, ints, there.2, one_leap_time z.leap_seconds v there.0 here.0 there.1 here.1) in
          clock_at_position (k + 1) v after (slice_get_within z.transitions (k + 1) later at_later)
          (position_after k v here.0 next later here.1 at_next since at_later (omega (arith, ints, here.2, ahead)))
          (inr (
            (λ none. absurd (omega (arith, none))),
            next,
            (subst (λ (i : ℕ). slice_get z.transitions i ≡ Some next)
                (omega arith) at_next),
            type,
          ))

      -- so it has these two types from the first instant up to the last one
      pub two_types : IsTypeOfLast z k before → IsTypeAt z next.type_index after → (low <ℤ jump) × (jump ≤ℤ high)
          × ((v : ℤ) → low ≤ℤ v → v <ℤ jump → IsClock z v before)
          × ((v : ℤ) → jump ≤ℤ v → v ≤ℤ high → IsClock z v after)
      two_types type type' = (jump_above, jump_up_to, type_before_jump type, type_from_jump type')

-- the type after the table is that of the clock where all transitions are reached, and of one that has none
pub clock_after_table : (z : Zone) → IsSoundTable z → (count : ℕ) → count ≡ length z.transitions
    → (v : ℤ) (t : LocalTimeType) → (0 < length z.transitions → IsReachedAt z v (length z.transitions))
    → IsTypeAfterTable (eqb count 0) z v t → IsClock z v t
clock_after_table z sound count is v t reached types =
    by_count count z.transitions is _ _ (IsClock z v t) (λ none without. inl (none, without))
    (λ some after. clock_after_position z sound v t some (reached some) after) types

-- and where there is none, a lookup has the fault of the rule
fault_by_rule : (rule : Option TransitionRule) (v : ℤ) (e : TzError)
    → MatchOption rule (e ≡ NoAvailableLocalTimeType) (λ r. e ≡ OutOfRange)
    → ((t : LocalTimeType) → ¬ IsTypeAfter rule v t) → IsFaultAfter rule v e
fault_by_rule (Some rule) v e is never = inr (is, (λ none. none-some rule (sym none)), never)
fault_by_rule None v e is never = inl (is, refl)

fault_by_rule_without : (z : Zone) → z.types ≢ [] → (rule : Option TransitionRule) (v : ℤ) (e : TzError)
    → MatchOption rule (e ≡ NoAvailableLocalTimeType) (λ r. e ≡ OutOfRange)
    → ((t : LocalTimeType) → ¬ IsTypeWithout z rule v t) → e ≡ OutOfRange
fault_by_rule_without z some (Some rule) v e is never = is
fault_by_rule_without z some None v e is never = absurd (first z.types refl)
  where
    first : (types : List LocalTimeType) → z.types ≡ types → ⊥
    first [] none = some none
    first (t ∷ types) are = never t (ap (λ (xs : List LocalTimeType). slice_get xs 0) are)

pub fault_after_table : (z : Zone) → IsSoundTable z → (count : ℕ) → count ≡ length z.transitions → (v : ℤ) (e : TzError)
    → (0 < length z.transitions → IsReachedAt z v (length z.transitions))
    → MatchOption z.extra_rule (e ≡ NoAvailableLocalTimeType) (λ rule. e ≡ OutOfRange)
    → ((t : LocalTimeType) → ¬ IsTypeAfterTable (eqb count 0) z v t) → IsLookupFault z v e
fault_after_table z sound zero is v e reached fault never =
    fault_without z (nil_from_length z.transitions (sym is)) v e
    (fault_by_rule_without z sound.has_types z.extra_rule v e fault never) never
fault_after_table z sound (suc before) is v e reached fault never =
    let some : 0 < length z.transitions = omega (arith, is) in
    fault_after_position z sound v e some (reached some)
    (fault_by_rule z.extra_rule v e fault (rw (eqb-suc-zero before) at never))
