-- What is reached is reached with all before it, and what is ahead with all after it.
use Rattle.tz_zone.proofs.Common.{◌≡◌, arith, to_z-of_z, ℕ, w64, sym, inl, inr, subst, Some, ◌-◌, ◌+◌, slice_get, slice_get-get_or, get_or, AreReached, AreAhead, IsAmongPositions}
use Rattle.tz_zone.proofs.RisingTimes.{ahead_from, reached_through}
use Rattle.tz_zone.proofs.clock.binary_search.half_of_block.Goals as goal

pub returns : goal.returns
returns c =
    let list = c.args.block.now in
    let l = c.args.unix_leap_time in
    let count = c.args.count in
    let later = c.args.place + count in
    let (inside, reached_before, ahead_after) = c.requires.among in
    let change = get_or list (later - 1) c.index-block-later.result in
    let at : slice_get list (later - 1) ≡ Some change =
    slice_get-get_or list (later - 1) c.index-block-later.result (omega (arith, inside, c.requires.some)) in
    elim (rw (to_z-of_z w64 l c.ranges.unix_leap_time) at c.later_if_reached.ensures) [
      | inl (is, reached) ↦ subst (λ (k : ℕ). IsAmongPositions list l k count) (sym is) (
        omega (arith, inside),
        subst (λ (k : ℕ). AreReached list l k) (omega (arith, c.requires.some))
            (reached_through list c.requires.rising l (later - 1) change at reached),
        subst (λ (k : ℕ). AreAhead list l k) (omega arith) ahead_after,
      )
      | inr (is, ahead) ↦ subst (λ (k : ℕ). IsAmongPositions list l k count) (sym is) (
        omega (arith, inside),
        reached_before,
        ahead_from list c.requires.rising l (later - 1) change at ahead,
      )
    ]
