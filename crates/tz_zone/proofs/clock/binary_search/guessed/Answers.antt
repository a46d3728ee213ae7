-- The four transitions around the leap time show its position.
use Rattle.tz_zone.proofs.Common.{◌≡◌, arith, to_z-of_z, ℕ, rules, ints, w64, sym, inl, inr, ◌∙◌, subst, Some, ◌≤ℤ◌, ◌<ℤ◌, ◌<◌, ◌+◌, slice_get, slice_get-get_or, get_or, Transition, AreReached, AreAhead, IsPositionAt, list_of}
use Rattle.tz_zone.proofs.Chunks.{length_is, same_at}
use Rattle.tz_zone.proofs.RisingTimes.{ahead_from, reached_through}
use Rattle.tz_zone.proofs.clock.binary_search.guessed.Goals as goal

pub returns-clause-at : goal.returns-clause-at
returns-clause-at c =
    let list = list_of c.args.view.now in
    let l = c.args.unix_leap_time in
    let first = c.in_ok-first.first in
    let four = c.in_ok-four.four.now in
    let time_is = to_z-of_z w64 l c.ranges.unix_leap_time in
    let a = c.index-four-0.result in
    let b = c.index-four-1.result in
    let d = c.index-four-2.result in
    let e = c.index-four-3.result in
    let at : (i : ℕ) (x : Transition) → i < 4 → slice_get list (first + i) ≡ Some (get_or four i x) =
    λ i x below. sym (same_at list first 4 four c.in_ok-four.ensures i below x)
    ∙ slice_get-get_or four i x (omega (arith, below, length_is list first 4 four c.in_ok-four.ensures)) in
    let reached : (i : ℕ) (x : Transition) → i < 4 → (get_or four i x).unix_leap_time ≤ℤ l
    → AreReached list l (first + (i + 1)) =
    λ i x below is. subst (λ (k : ℕ). AreReached list l k) (omega arith)
    (reached_through list c.requires.rising l (first + i) (get_or four i x) (at i x below) is) in
    let ahead : (i : ℕ) (x : Transition) → i < 4 → l <ℤ (get_or four i x).unix_leap_time
    → AreAhead list l (first + i) =
    λ i x below. ahead_from list c.requires.rising l (first + i) (get_or four i x) (at i x below) in
    let first_is = to_z-of_z w64 c.unix_leap_time-2.result (search rules) in
    let first_reached : (get_or four 0 a).unix_leap_time ≤ℤ l =
    omega (arith, ints, c.if-unix_leap_time.false, c.unix_leap_time-2.ensures, first_is, time_is) in
    let last_time = c.unix_leap_time-else-unix_leap_time in
    let last_is = to_z-of_z w64 last_time.result (search rules) in
    let last_ahead : l <ℤ (get_or four 3 e).unix_leap_time =
    omega (arith, ints, c.if-unix_leap_time-2.false, last_time.ensures, last_is, time_is) in
    elim (rw time_is at c.later_if_reached.ensures) [
      | inl (is, third_reached) ↦
          subst (λ (k : ℕ). IsPositionAt list l k) (omega (arith, is))
          (reached 2 d (omega arith) third_reached, ahead 3 e (omega arith) last_ahead)
      | inr (is, third_ahead) ↦ elim (rw time_is at c.later_if_reached-next.ensures) [
        | inl (next_is, second_reached) ↦
            subst (λ (k : ℕ). IsPositionAt list l k) (omega (arith, is, next_is))
            (reached 1 b (omega arith) second_reached, ahead 2 d (omega arith) third_ahead)
        | inr (next_is, second_ahead) ↦
            subst (λ (k : ℕ). IsPositionAt list l k) (omega (arith, is, next_is))
            (reached 0 a (omega arith) first_reached, ahead 1 b (omega arith) second_ahead)
      ]
    ]
