-- Positions between two others, and the clock where transitions are to one type.
use Rattle.tz_zone.proofs.Common.{◌≡◌, arith, ℕ, ints, refl, sym, inr, inl, length, ℤ, ◌∙◌, subst, ◌<◌, ap, List, ◌≤ℤ◌, Some, ◌<ℤ◌, pos, ◌-ℤ◌, ◌-◌, ◌≤◌, LocalTimeType, Zone, [], ◌+ℤ◌, ◌+◌, Option, by_lt_z, negsuc, slice_get, slice_get_within, ◌≢◌, None, same_Some, ◌∷◌, IsReachedAt, suc, IsClock, IsWideEffect, zero, Transition, cases_lt, IsLeapTimeRefused, AreReached, MatchOption, get_or, IsLeapTime, IsTimeReached, IsTypeOfLast, IsSoundTable, IsTypeAt, IsTypeAfter, AreAhead, Bor, HasNoChange, HasNoPreceding, slice_get-get_or, HasNoType, IsRunStart, LiesAt, HasNoneAfterSeam, IsPositionAt, from_start}
use Rattle.tz_zone.proofs.LeapTimes.{leap_time_mono, one_leap_time}
use Rattle.tz_zone.proofs.RisingTimes.{rising, ahead_earlier, ahead_from, none_ahead, reached_later, reached_through, transitions_rise}
use Rattle.tz_zone.proofs.Clocks.{one_type}
use Rattle.tz_zone.proofs.Positions.{reached_at, clock_at_position, clock_after_position, type_after_position, not_reached}
use Rattle.tz_zone.proofs.InstantsWithLeapTime.{plain_leap, leap_unless_refused, defined_between, effect_ahead}
use Rattle.tz_zone.proofs.LeapReached.{reached_between}
use Rattle.tz_zone.proofs.ChangeSpans.{HasOneType, one_type_of, none_until, none_down, none_from_start}

-- an instant at which the clock has a type has a leap time
pub leap_of_clock : (z : Zone) → 0 < length z.transitions → (v : ℤ) (t : LocalTimeType) → IsClock z v t
    → (l : ℤ) × IsLeapTime z.leap_seconds v l
leap_of_clock z some v t (inl (none, type)) = absurd (omega (arith, some, ap length none))
leap_of_clock z some v t (inr (last, is_last, (l, leap, side))) = (l, leap)

pub some_transitions : (list : List Transition) (i : ℕ) → i < length list → list ≢ []
some_transitions [] i within none = absurd (omega (arith, within))
some_transitions (x ∷ rest) i within none = absurd (omega (arith, ap length none))

-- a zone has one type at a position
pub one_type_of_last : (z : Zone) (k : ℕ) (a b : LocalTimeType) → IsTypeOfLast z k a → IsTypeOfLast z k b → a ≡ b
one_type_of_last z k a b (inl (none, first)) (inl (none', second)) = same_Some a b (sym first ∙ second)
one_type_of_last z k a b (inl (none, first)) (inr (some, change, at, second)) = absurd (some none)
one_type_of_last z k a b (inr (some, change, at, first)) (inl (none, second)) = absurd (some none)
one_type_of_last z k a b (inr (some, change, at, first)) (inr (some', change', at', second)) =
    same_Some a b (sym first ∙ ap (λ (x : Transition). slice_get z.types x.type_index)
    (same_Some change change' (sym at ∙ at')) ∙ second)

module _ (z : Zone) (sound : IsSoundTable z) where
  -- a leap time at which the transitions before one position are reached, and those from another one on are ahead, lies
  -- at a position between them
  position_between : (l : ℤ) (d k : ℕ) → k + d ≤ length z.transitions → AreReached z.transitions l k
      → AreAhead z.transitions l (k + d) → (p : ℕ) × (k ≤ p) × (p ≤ k + d) × IsPositionAt z.transitions l p
  position_between l zero k within reached ahead =
      (k, omega arith, omega arith, (reached, λ i change from at. ahead i change (omega (arith, from)) at))
  position_between l (suc d) k within reached ahead =
      let change = get_or z.transitions (k + d) from_start in
      let at = slice_get-get_or z.transitions (k + d) from_start (omega (arith, within)) in
      by_lt_z l change.unix_leap_time
      (λ before. let found = position_between l d k (omega (arith, within)) reached
      (ahead_from z.transitions (rising z sound) l (k + d) change at before) in
      (found.0, found.1, omega (arith, found.2), found.3))
      (λ from. (
        k + suc d,
        omega arith,
        omega arith,
        (
          (λ i other less at_i. reached_through z.transitions (rising z sound) l (k + d) change at from i other
              (omega (arith, less)) at_i),
          ahead,
        ),
      ))

  -- where all positions from one up to another have the same type, the clock has it from the first up to the transition
  -- after the second
  clock_between : (k i : ℕ) (t : LocalTimeType) (v l : ℤ) → k ≤ i → i < length z.transitions
      → ((j : ℕ) → k ≤ j → j ≤ i → IsTypeOfLast z j t)
      → IsLeapTime z.leap_seconds v l → AreReached z.transitions l k → AreAhead z.transitions l i → IsClock z v t
  clock_between k i t v l order inside types leap reached ahead =
      let back : k + (i - k) ≡ i = omega (arith, order) in
      let found = position_between l (i - k) k (omega (arith, order, inside)) reached
      (subst (λ (j : ℕ). AreAhead z.transitions l j) (sym back) ahead) in
      clock_at_position z sound found.0 v t (omega (arith, found.2, back, inside))
      (reached_at z v l found.0 leap found.3) (types found.0 found.1 (omega (arith, found.2, back)))

  -- so it does from an instant at the first position until the transition after the second is reached
  module _ (k end : ℕ) (since : ℤ) (t : LocalTimeType) (change : Transition) (at : IsReachedAt z since k)
      (order : k ≤ end) (at_end : slice_get z.transitions end ≡ Some change)
      (types : (j : ℕ) → k ≤ j → j ≤ end → IsTypeOfLast z j t) where
    pub clock_until : (v l : ℤ) → since ≤ℤ v → IsLeapTime z.leap_seconds v l → l <ℤ change.unix_leap_time
        → IsClock z v t
    clock_until v l from leap before =
        clock_between k end t v l order (slice_get_within z.transitions end change at_end) types leap
        (reached_later z.transitions k at.time l at.reached
        (leap_time_mono z.leap_seconds sound.leap_seconds_are since v at.time l from at.time_is leap))
        (ahead_from z.transitions (rising z sound) l end change at_end before)

    pub one_type_until : (last : ℤ) → ((v : ℤ) → v ≤ℤ last → ¬ IsTimeReached z.leap_seconds change.unix_leap_time v)
        → HasOneType z since last
    one_type_until last ahead = one_type_of z since last t (λ v s from to clock.
        let leap = leap_of_clock z (omega (arith, slice_get_within z.transitions end change at_end)) v s clock in
        one_type z v s t clock (clock_until v leap.0 from leap.1
        (by_lt_z leap.0 change.unix_leap_time (λ h. h) (λ h. absurd (ahead v to (leap.0, leap.1, h))))))

    -- where it takes effect comes later
    effect_later : (m : ℤ) → IsWideEffect z.leap_seconds change.unix_leap_time m → since <ℤ m
    effect_later m wide = effect_ahead z.leap_seconds sound.leap_seconds_are since change.unix_leap_time m
        at.time_is.not_refused
        (not_reached z sound since k end change at order at_end)
        wide

    -- and right before that it still has the type
    clock_before_effect : (m : ℤ) → IsWideEffect z.leap_seconds change.unix_leap_time m
        → ¬ IsLeapTimeRefused z.leap_seconds m → IsClock z (m -ℤ pos 1) t
    clock_before_effect m wide defined =
        let later = effect_later m wide in
        let leap = leap_unless_refused z.leap_seconds sound.leap_seconds_are (m -ℤ pos 1)
        (defined_between z.leap_seconds sound.leap_seconds_are since m (m -ℤ pos 1) at.time_is.not_refused defined
        (omega (arith, ints, later)) (omega (arith, ints))) in
        clock_until (m -ℤ pos 1) leap.0 (omega (arith, ints, later)) leap.1
        (by_lt_z leap.0 change.unix_leap_time (λ h. h)
        (λ h. absurd (omega (arith, ints, wide.least (m -ℤ pos 1) (leap.0, leap.1, h)))))

    -- so no change comes until then, if none came up to the instant
    pub until_effect : (m : ℤ) → IsWideEffect z.leap_seconds change.unix_leap_time m
        → ¬ IsLeapTimeRefused z.leap_seconds m → (u : ℤ) → negsuc 9223372036854775807 ≤ℤ u → u ≤ℤ since
        → HasNoChange z u (since +ℤ pos 1)
        → (u <ℤ m) × (negsuc 9223372036854775807 <ℤ m) × HasNoChange z u m × IsClock z (m -ℤ pos 1) t
    until_effect m wide defined u least up_to none =
        let later = effect_later m wide in (
          omega (arith, ints, up_to, later),
          omega (arith, ints, least, up_to, later),
          none_until z u since m later none (one_type_until (m -ℤ pos 1)
              (λ v until reached. absurd (omega (arith, ints, until, wide.least v reached)))),
          clock_before_effect m wide defined,
        )

  -- before the first transition there is no change
  pub none_at_front : 0 < length z.transitions → (w u : ℤ) → IsReachedAt z w 0 → HasNoChange z w u → HasNoPreceding z u
  none_at_front some w u at none = none_from_start z (negsuc 9223372036854775807) u (omega (arith, ints))
      (none_down z u (negsuc 9223372036854775807) w none (λ v v' s s' a b d e first second.
      let (t, is) = type_0 z.types refl in
      one_type z v s t first (at_front v s t b is first) ∙ one_type z v' t s' (at_front v' s' t e is second) second))
    where
      type_0 : (types : List LocalTimeType) → z.types ≡ types → (t : LocalTimeType) × IsTypeAt z 0 t
      type_0 [] none = absurd (sound.has_types none)
      type_0 (t ∷ types) is = (t, ap (λ (xs : List LocalTimeType). slice_get xs 0) is)

      at_front : (v : ℤ) (s t : LocalTimeType) → v ≤ℤ w → IsTypeAt z 0 t → IsClock z v s → IsClock z v t
      at_front v s t to type clock =
          let leap = leap_of_clock z some v s clock in
          clock_at_position z sound 0 v t some (record {
            time = leap.0;
            time_is = leap.1;
            reached = λ i change less at_i. absurd (omega (arith, less));
            ahead = ahead_earlier z.transitions 0 at.time leap.0 at.ahead
                (leap_time_mono z.leap_seconds sound.leap_seconds_are v w leap.0 at.time to leap.1 at.time_is);
          }) (inl (refl, type))

  -- back from an instant at a position to where its run begins
  module _ (start k : ℕ) (m : ℤ) (run : IsRunStart z k start m) where
    -- right before that the position comes before the run
    module _ (e : ℕ) (lies : LiesAt z (m -ℤ pos 1) e) where
      pub position_earlier : e < start
      position_earlier = elim (cases_lt e start) [
        | inl less ↦ less
        | inr more ↦
            let at = lies.1 in
            let reached = at.reached (start - 1) run.change (omega (arith, run.some, more)) run.change_is in
            absurd (omega (arith, ints, run.effect.least (m -ℤ pos 1) (at.time, at.time_is, reached)))
      ]

      pub clock_before_start : (t : LocalTimeType) → IsTypeOfLast z e t → IsClock z (m -ℤ pos 1) t
      clock_before_start t type = clock_at_position z sound e (m -ℤ pos 1) t
          (omega (arith, position_earlier, slice_get_within z.transitions (start - 1) run.change run.change_is)) lies.1
          type

    module _ (w : ℤ) (lies : LiesAt z w k) where
      at : IsReachedAt z w k
      at = lies.1

      before_now : run.change.unix_leap_time ≤ℤ at.time
      before_now = at.reached (start - 1) run.change (omega (arith, run.some, run.up_to)) run.change_is

      pub effect_up_to : m ≤ℤ w
      effect_up_to = run.effect.least w (at.time, at.time_is, before_now)

      leap_since : (v : ℤ) → m ≤ℤ v → v ≤ℤ w → (l : ℤ) × IsLeapTime z.leap_seconds v l
          × AreReached z.transitions l start
      leap_since v from to =
          let (l, leap, reached) = reached_between z.leap_seconds sound.leap_seconds_are run.change.unix_leap_time m w v
          run.effect at.time_is.not_refused from to in (
            l,
            leap,
            λ i other less at_i. reached_through z.transitions (rising z sound) l
                (start - 1) run.change run.change_is reached i other (omega (arith, less, run.some)) at_i,
          )

      pub defined_at_start : ¬ IsLeapTimeRefused z.leap_seconds m
      defined_at_start = (leap_since m (omega (arith, ints)) effect_up_to).1.not_refused

      -- if all transitions are reached at the later instant, they are from there on
      pub position_at_start : start ≡ length z.transitions → IsReachedAt z m start
      position_at_start all =
          let leap = leap_since m (omega (arith, ints)) effect_up_to in
          reached_at z m leap.0 start leap.1 (leap.2, none_ahead z.transitions start leap.0 (omega (arith, all)))

      -- otherwise the clock has the type of the run, which is that at its first position
      clock_since : (inside : k < length z.transitions) (v : ℤ) → m ≤ℤ v → v ≤ℤ w → IsClock z v (run.types inside).0
      clock_since inside v from to =
          let leap = leap_since v from to in
          clock_between start k (run.types inside).0 v leap.0 run.up_to inside (run.types inside).1 leap.1 leap.2
          (ahead_earlier z.transitions k at.time leap.0 at.ahead
          (leap_time_mono z.leap_seconds sound.leap_seconds_are v w leap.0 at.time to leap.1 at.time_is))

      inside : start < length z.transitions → k < length z.transitions
      inside less = elim (cases_lt k (length z.transitions)) [
        | inl under ↦ under
        | inr over ↦ let all : k
            ≡ length z.transitions = omega (arith, over, lies.0) in absurd (omega (arith, less, all, run.all all))
      ]

      pub clock_at_start : start < length z.transitions → (s : LocalTimeType) → IsTypeOfLast z start s → IsClock z m s
      clock_at_start less s type =
          let (t, types) = run.types (inside less) in
          subst (λ (x : LocalTimeType). IsClock z m x)
          (one_type_of_last z start t s (types start (omega arith) run.up_to) type)
          (clock_since (inside less) m (omega (arith, ints)) effect_up_to)

      -- and no change comes after the start
      pub none_since : (u : ℤ) → HasNoChange z w u → HasNoneAfterSeam z k u → HasNoChange z m u
      none_since u none seam = elim (cases_lt k (length z.transitions)) [
        | inl less ↦ none_down z u m w none (one_type_of z m w (run.types less).0
            (λ v s from to clock. one_type z v s (run.types less).0 clock (clock_since less v from to)))
        | inr over ↦
            let all : k ≡ length z.transitions = omega (arith, over, lies.0) in
            let last = subst (λ (i : ℕ). slice_get z.transitions i ≡ Some run.change) (omega (arith, all, run.all all))
            run.change_is in
            seam all m (run.change, last, run.effect)
      ]

-- after a transition its type holds
pub type_after : (z : Zone) (i : ℕ) (change : Transition) (t : LocalTimeType) → slice_get z.transitions i ≡ Some change
    → IsTypeAt z change.type_index t → IsTypeOfLast z (i + 1) t
type_after z i change t at type =
    inr (
      (λ none. absurd (omega (arith, none))),
      change,
      subst (λ (j : ℕ). slice_get z.transitions j ≡ Some change)
          (omega arith) at,
      type,
    )

-- what holds at positions in turn, and at the next or the one before
pub types_on : (z : Zone) (k end : ℕ) (t : LocalTimeType) → ((i : ℕ) → k ≤ i → i ≤ end → IsTypeOfLast z i t)
    → IsTypeOfLast z (end + 1) t → (i : ℕ) → k ≤ i → i ≤ end + 1 → IsTypeOfLast z i t
types_on z k end t types next i from to = elim (cases_lt i (end + 1)) [
  | inl less ↦ types i from (omega (arith, less))
  | inr more ↦ let e : end + 1 ≡ i = omega (arith, more, to) in subst (λ (j : ℕ). IsTypeOfLast z j t) e next
]

pub types_back : (z : Zone) (start k : ℕ) (t : LocalTimeType) → ((i : ℕ) → start ≤ i → i ≤ k → IsTypeOfLast z i t)
    → IsTypeOfLast z (start - 1) t → (i : ℕ) → start - 1 ≤ i → i ≤ k → IsTypeOfLast z i t
types_back z start k t types before i from to = elim (cases_lt i start) [
  | inl less ↦ let e : start - 1 ≡ i = omega (arith, less, from) in subst (λ (j : ℕ). IsTypeOfLast z j t) e before
  | inr more ↦ types i (omega (arith, more)) to
]

-- without leap seconds the effect of a transition lies right after it
pub plain_position : (z : Zone) → IsSoundTable z → z.leap_seconds ≡ [] → (i : ℕ) (m : ℤ) (change : Transition)
    → slice_get z.transitions i ≡ Some change → IsWideEffect z.leap_seconds change.unix_leap_time m
    → IsReachedAt z m (i + 1)
plain_position z sound none i m change at wide = record {
  time = m;
  time_is = leap;
  reached = reached_through z.transitions (rising z sound) m i change at (omega (arith, ints, reached.2, same));
  ahead = ahead_earlier z.transitions (i + 1) change.unix_leap_time m later up_to;
}
  where
    leap : IsLeapTime z.leap_seconds m m
    leap = plain_leap z.leap_seconds none m

    reached : IsTimeReached z.leap_seconds change.unix_leap_time m
    reached = wide.reached leap.not_refused

    same : reached.0 ≡ m
    same = one_leap_time z.leap_seconds m reached.0 m reached.1 leap

    later : AreAhead z.transitions change.unix_leap_time (i + 1)
    later j other above at_j =
        transitions_rise z.transitions (rising z sound) i j change other (omega (arith, above)) at at_j

    up_to : m ≤ℤ change.unix_leap_time
    up_to = wide.least change.unix_leap_time
        (change.unix_leap_time, plain_leap z.leap_seconds none change.unix_leap_time, omega (arith, ints))

-- where all transitions are reached the clock has the type after the last one, or none
pub types_from_last : (z : Zone) → IsSoundTable z → 0 < length z.transitions → (u : ℤ)
    → IsReachedAt z u (length z.transitions)
    → (type : Option (Bor LocalTimeType)) → MatchOption type ((t : LocalTimeType) → ¬ IsTypeAfter z.extra_rule u t)
    (λ t. IsTypeAfter z.extra_rule u t.now)
    → MatchOption type (HasNoType z u) (λ t. IsClock z u t.now)
types_from_last z sound some u at (Some t) is = clock_after_position z sound u t.now some at is
types_from_last z sound some u at None is = λ t clock. is t (type_after_position z sound u t some at clock)

-- and right before its time an instant lies at the position before it
pub plain_position_before : (z : Zone) → IsSoundTable z → z.leap_seconds ≡ [] → (i : ℕ) (change : Transition)
    → slice_get z.transitions i ≡ Some change → IsReachedAt z (change.unix_leap_time -ℤ pos 1) i
plain_position_before z sound none i change at = record {
  time = change.unix_leap_time -ℤ pos 1;
  time_is = plain_leap z.leap_seconds none (change.unix_leap_time -ℤ pos 1);
  reached = λ j other less at_j. omega (
    arith,
    ints,
    transitions_rise z.transitions (rising z sound) j i other change less at_j at,
  );
  ahead = ahead_from z.transitions (rising z sound) (change.unix_leap_time -ℤ pos 1) i change at (omega (arith, ints));
}
