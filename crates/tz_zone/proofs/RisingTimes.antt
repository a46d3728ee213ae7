-- Lists of items whose times rise: what is up to a time is the front of the list.
use Rattle.tz_zone.proofs.Common.{◌≡◌, arith, ℕ, ints, sym, inr, inl, length, ℤ, ◌∙◌, ◌<◌, ap, List, ◌≤ℤ◌, Some, ◌<ℤ◌, ◌-◌, ◌≤◌, Zone, ◌+◌, by_lt_z, LeapSecond, slice_get, slice_get_within, same_Some, suc, AreLeapSeconds, zero, Transition, cases_lt, AreReached, get_or, IsSoundTable, AreAhead, slice_get-get_or, IsBefore, IsRising}
use Rattle.tz_zone.proofs.LeapSteps.{times_rise}
use Rattle.tz_zone.proofs.LeapLists.{time_at, time_at-is, AreSteps-from_leaps}

-- an item has a smaller time than each later one
abbrev pub Rise : {X : Type 0} → (X → ℤ) → List X → Type 0
Rise {X} time xs = (i j : ℕ) (x y : X) → i < j → slice_get xs i ≡ Some x → slice_get xs j ≡ Some y → time x <ℤ time y

module _ {X : Type 0} (time : X → ℤ) (xs : List X) (rise : Rise time xs) (v : ℤ) (k : ℕ) (within : k ≤ length xs) where
  pub up_to_before_point : ((position : ℕ) → position + 1 ≡ k → (x : X) × (slice_get xs position ≡ Some x)
      × (time x ≤ℤ v)) → (i : ℕ) (x : X) → i < k → slice_get xs i ≡ Some x → time x ≤ℤ v
  up_to_before_point before i x h at =
      let last = before (k - 1) (omega arith) in
      elim (cases_lt i (k - 1)) [
        | inl less ↦ omega (arith, ints, rise i (k - 1) x last.0 less at last.1, last.2)
        | inr more ↦
            rw (same_Some x last.0 (sym at ∙ ap (slice_get xs) (omega arith) ∙ last.1)) last.2
      ]

  pub later_from_point : (k < length xs → ¬ ((x : X) × (slice_get xs k ≡ Some x) × (time x ≤ℤ v))) → (i : ℕ) (x : X)
      → k ≤ i → slice_get xs i ≡ Some x → v <ℤ time x
  later_from_point after i x h at =
      by_lt_z v (time x) (λ e. e) (λ not_later.
      let inside = slice_get_within xs i x at in
      let here : (y : X) × (slice_get xs k ≡ Some y) = (get_or xs k x, slice_get-get_or xs k x (omega arith)) in
      elim (cases_lt k i) [
        | inl less ↦ absurd (after (omega arith)
            (here.0, here.1, omega (arith, ints, rise k i here.0 x less here.1 at)))
        | inr more ↦
            let same : here.0 ≡ x = same_Some here.0 x (sym here.1 ∙ ap (slice_get xs) (omega arith) ∙ at) in
            absurd (after (omega arith) (x, ap (slice_get xs) (omega arith) ∙ at, not_later))
      ])

-- the times of transitions rise
pub transitions_rise : (transitions : List Transition) → IsRising transitions
    → Rise (λ (change : Transition). change.unix_leap_time) transitions
transitions_rise transitions rising i j x y h at at' =
    by_steps (j - i - 1) i x y at (ap (slice_get transitions) (omega arith) ∙ at')
  where
    by_steps : (m i : ℕ) (x y : Transition) → slice_get transitions i ≡ Some x
        → slice_get transitions (i + suc m) ≡ Some y → x.unix_leap_time <ℤ y.unix_leap_time
    by_steps zero i x y at at' =
        rising i x y at (ap (slice_get transitions) (omega arith) ∙ at')
    by_steps (suc m) i x y at at' =
        let inside = slice_get_within transitions (i + suc (suc m)) y at' in
        let next : slice_get transitions (i + 1) ≡ Some (get_or transitions (i + 1) x) =
        slice_get-get_or transitions (i + 1) x (omega arith) in
        omega (
          arith,
          ints,
          rising i x (get_or transitions (i + 1) x) at next,
          by_steps m (i + 1)
              (get_or transitions (i + 1) x) y next (ap (slice_get transitions) (omega arith) ∙ at'),
        )

pub rising : (z : Zone) → IsSoundTable z → IsRising z.transitions
rising z sound i = (sound.transitions_are i).1

-- where one transition is reached, all before it are
pub reached_through : (transitions : List Transition) → IsRising transitions → (v : ℤ) (k : ℕ) (change : Transition)
    → slice_get transitions k ≡ Some change → change.unix_leap_time ≤ℤ v → AreReached transitions v (k + 1)
reached_through transitions rising v k change at reached i x h at' =
    elim (cases_lt i k) [
      | inl less ↦ omega (arith, ints, transitions_rise transitions rising i k x change less at' at, reached)
      | inr more ↦
          rw (same_Some x change (sym at' ∙ ap (slice_get transitions) (omega arith) ∙ at)) reached
    ]

-- where one is ahead, all after it are
pub ahead_from : (transitions : List Transition) → IsRising transitions → (v : ℤ) (k : ℕ) (change : Transition)
    → slice_get transitions k ≡ Some change → v <ℤ change.unix_leap_time → AreAhead transitions v k
ahead_from transitions rising v k change at ahead i x h at' =
    elim (cases_lt k i) [
      | inl less ↦ omega (arith, ints, transitions_rise transitions rising k i change x less at at', ahead)
      | inr more ↦
          rw (same_Some x change (sym at' ∙ ap (slice_get transitions) (omega arith) ∙ at)) ahead
    ]

-- where the transition before a position is reached, all before it are
pub reached_before : (transitions : List Transition) → IsRising transitions → (k : ℕ) (before : Transition)
    → IsBefore transitions k before → (v : ℤ) → before.unix_leap_time ≤ℤ v → AreReached transitions v k
reached_before transitions rising k before (inl (none, is)) v reached i change less at =
    absurd (omega (arith, none, less))
reached_before transitions rising k before (inr (some, at_before)) v reached i change less at =
    reached_through transitions rising v (k - 1) before at_before reached i change (omega (arith, less, some)) at

-- what is reached stays so, and what is ahead was so before
pub reached_later : (transitions : List Transition) (k : ℕ) (l v : ℤ) → AreReached transitions l k → l ≤ℤ v
    → AreReached transitions v k
reached_later transitions k l v reached order i change less at = omega (arith, ints, reached i change less at, order)

pub ahead_earlier : (transitions : List Transition) (k : ℕ) (l v : ℤ) → AreAhead transitions l k → v ≤ℤ l
    → AreAhead transitions v k
ahead_earlier transitions k l v ahead order i change above at = omega (arith, ints, ahead i change above at, order)

-- after the last one none is ahead
pub none_ahead : (transitions : List Transition) (k : ℕ) (l : ℤ) → length transitions ≤ k → AreAhead transitions l k
none_ahead transitions k l all i change above at =
    absurd (omega (arith, all, above, slice_get_within transitions i change at))

-- and those of leap seconds
pub leap_seconds_rise : (leaps : List LeapSecond) → AreLeapSeconds leaps
    → Rise (λ (l : LeapSecond). l.unix_leap_time) leaps
leap_seconds_rise leaps are i j x y h at at' =
    let position : i + (j - i) ≡ j = omega arith in
    let inside = slice_get_within leaps j y at' in
    let rise = times_rise (length leaps) (time_at leaps) _ (AreSteps-from_leaps leaps are) i (j - i) (omega arith) in
    omega (arith, ints, time_at-is leaps i x at, time_at-is leaps j y at', ap (time_at leaps) position)
