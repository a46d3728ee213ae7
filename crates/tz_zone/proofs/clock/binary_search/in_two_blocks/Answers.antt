-- All transitions lie in one of two chunks, and the last one of the early chunk shows in which the leap time does.
use Rattle.tz_zone.proofs.Common.{◌≡◌, arith, to_z-of_z, ℕ, ℤ, rules, ints, w64, sym, subst, ◌∙◌, List, length, Some, ◌≤◌, ◌≤ℤ◌, ◌<ℤ◌, ◌+◌, ◌-◌, slice_get, slice_get-get_or, get_or, Transition, AreReached, AreAhead, IsAmongPositions, IsRising, list_of}
use Rattle.tz_zone.specs.Looks.{IsChunkAt}
use Rattle.tz_zone.proofs.Chunks.{among_places, among_positions, chunk_rises, length_is, same_at}
use Rattle.tz_zone.proofs.RisingTimes.{ahead_from, reached_through}
use Rattle.tz_zone.proofs.clock.binary_search.in_two_blocks.Goals as goal

module _ (list : List Transition) (rising : IsRising list) (l : ℤ) (early : List Transition)
    (is : IsChunkAt list 0 128 early) (other : Transition) where
  last_at : slice_get list 127 ≡ Some (get_or early 127 other)
  last_at =
      sym (same_at list 0 128 early is 127 (omega arith) other)
      ∙ slice_get-get_or early 127 other (omega (arith, length_is list 0 128 early is))

  among_early : l <ℤ (get_or early 127 other).unix_leap_time → IsAmongPositions list l 0 128
  among_early ahead = (
    omega (arith, is.0),
    λ i change none at. absurd (omega (arith, none)),
    ahead_from list rising l 127 (get_or early 127 other) last_at ahead,
  )

  among_late : (start : ℕ) → start + 128 ≡ length list → start ≤ 128 → (get_or early 127 other).unix_leap_time ≤ℤ l
      → AreAhead list l (length list - 1) → IsAmongPositions list l start 128
  among_late start whole few reached ahead = (
    omega (arith, whole),
    λ i change less at.
        reached_through list rising l 127 (get_or early 127 other) last_at reached i change
        (omega (arith, less, few)) at,
    subst (λ (k : ℕ). AreAhead list l k) (omega (arith, whole)) ahead,
  )

pub place_in_block-requires-clause-rising : goal.place_in_block-requires-clause-rising
place_in_block-requires-clause-rising c =
    chunk_rises (list_of c.args.view.now) (c.len-count.result - 128) 128 c.in_ok-late.late.now c.in_ok-late.ensures
    c.requires.rising

pub place_in_block-requires-clause-among : goal.place_in_block-requires-clause-among
place_in_block-requires-clause-among c =
    let list = list_of c.args.view.now in
    let l = c.args.unix_leap_time in
    let start = c.len-count.result - 128 in
    let time_is = to_z-of_z w64 l c.ranges.unix_leap_time in
    let last = get_or c.in_ok-early.early.now 127 c.index-early.result in
    let read_is = to_z-of_z w64 c.unix_leap_time.result (search rules) in
    let reached : last.unix_leap_time ≤ℤ l =
    omega (arith, ints, c.if-unix_leap_time.true, c.unix_leap_time.ensures, read_is, time_is) in
    let among =
    among_late list c.requires.rising l c.in_ok-early.early.now c.in_ok-early.ensures c.index-early.result start
    (omega (arith, c.if-count-lt-BLOCK.false, c.len-count.ensures)) (omega (arith, c.if-count.false)) reached
    c.requires.ahead in
    rw time_is (among_places list start 128 c.in_ok-late.late.now c.in_ok-late.ensures l (omega arith) among)

pub overflow_add-result : goal.overflow_add-result
overflow_add-result c =
    let late = c.in_ok-late in
    let whole = length_is (list_of c.args.view.now) (c.len-count.result - 128) 128 late.late.now late.ensures in
    omega (arith, c.place_in_block.ensures, late.ensures, c.args.view.now.fits, whole)

pub returns-then-unix_leap_time-clause-within : goal.returns-then-unix_leap_time-clause-within
returns-then-unix_leap_time-clause-within c =
    let late = c.in_ok-late in
    let whole = length_is (list_of c.args.view.now) (c.len-count.result - 128) 128 late.late.now late.ensures in
    omega (arith, c.place_in_block.ensures, late.ensures, whole)

pub returns-then-unix_leap_time-clause-at : goal.returns-then-unix_leap_time-clause-at
returns-then-unix_leap_time-clause-at c =
    let list = list_of c.args.view.now in
    let l = c.args.unix_leap_time in
    let start = c.len-count.result - 128 in
    let time_is = to_z-of_z w64 l c.ranges.unix_leap_time in
    let last = get_or c.in_ok-early.early.now 127 c.index-early.result in
    let read_is = to_z-of_z w64 c.unix_leap_time.result (search rules) in
    let reached : last.unix_leap_time ≤ℤ l =
    omega (arith, ints, c.if-unix_leap_time.true, c.unix_leap_time.ensures, read_is, time_is) in
    let among =
    among_late list c.requires.rising l c.in_ok-early.early.now c.in_ok-early.ensures c.index-early.result start
    (omega (arith, c.if-count-lt-BLOCK.false, c.len-count.ensures)) (omega (arith, c.if-count.false)) reached
    c.requires.ahead in
    let at =
    among_positions list start 128 c.in_ok-late.late.now c.in_ok-late.ensures l (omega arith) among
    c.place_in_block.result (rw time_is at c.place_in_block.ensures) in (
      at.1,
      subst (λ (k : ℕ). AreAhead list l k) (omega arith) at.2,
    )

pub place_in_block-requires-2-clause-rising : goal.place_in_block-requires-2-clause-rising
place_in_block-requires-2-clause-rising c =
    chunk_rises (list_of c.args.view.now) 0 128 c.in_ok-early.early.now c.in_ok-early.ensures c.requires.rising

pub place_in_block-requires-2-clause-among : goal.place_in_block-requires-2-clause-among
place_in_block-requires-2-clause-among c =
    let list = list_of c.args.view.now in
    let l = c.args.unix_leap_time in
    let time_is = to_z-of_z w64 l c.ranges.unix_leap_time in
    let last = get_or c.in_ok-early.early.now 127 c.index-early.result in
    let read_is = to_z-of_z w64 c.unix_leap_time.result (search rules) in
    let ahead : l <ℤ last.unix_leap_time =
    omega (arith, ints, c.if-unix_leap_time.false, c.unix_leap_time.ensures, read_is, time_is) in
    let among =
    among_early list c.requires.rising l c.in_ok-early.early.now c.in_ok-early.ensures c.index-early.result ahead in
    rw time_is (among_places list 0 128 c.in_ok-early.early.now c.in_ok-early.ensures l (omega arith) among)

pub returns-clause-at : goal.returns-clause-at
returns-clause-at c =
    let list = list_of c.args.view.now in
    let l = c.args.unix_leap_time in
    let time_is = to_z-of_z w64 l c.ranges.unix_leap_time in
    let last = get_or c.in_ok-early.early.now 127 c.index-early.result in
    let read_is = to_z-of_z w64 c.unix_leap_time.result (search rules) in
    let ahead : l <ℤ last.unix_leap_time =
    omega (arith, ints, c.if-unix_leap_time.false, c.unix_leap_time.ensures, read_is, time_is) in
    let among =
    among_early list c.requires.rising l c.in_ok-early.early.now c.in_ok-early.ensures c.index-early.result ahead in
    let at =
    among_positions list 0 128 c.in_ok-early.early.now c.in_ok-early.ensures l (omega arith) among
    c.place_in_block-2.result (rw time_is at c.place_in_block-2.ensures) in (
      subst (λ (k : ℕ). AreReached list l k) (omega arith) at.1,
      subst (λ (k : ℕ). AreAhead list l k) (omega arith) at.2,
    )
