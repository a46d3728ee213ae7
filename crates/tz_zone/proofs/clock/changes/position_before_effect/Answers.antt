-- Before the effect the transition is ahead, and so are those that the loop passes. The one before them is reached.
use Rattle.tz_zone.proofs.Common.{◌≡◌, arith, to_z-of_z, ℕ, rules, ints, w64, refl, length, ℤ, subst, ◌<◌, ◌≤ℤ◌, ◌<ℤ◌, pos, zone_of_data, ◌-ℤ◌, ◌-◌, SFits, by_lt_z, negsuc, slice_get_read, to_z, of_z, AreReached}
use Rattle.tz_zone.proofs.RisingTimes.{rising, ahead_from, reached_through}
use Rattle.tz_zone.proofs.SegmentTypes.{match_none}
use Rattle.tz_zone.proofs.clock.changes.position_before_effect.Goals as goal

one_before : (u : ℤ) → SFits w64 u → negsuc 9223372036854775807 <ℤ u
    → to_z w64 (of_z w64 (to_z w64 (of_z w64 u) -ℤ pos 1)) ≡ u -ℤ pos 1
one_before u fits low = omega (arith, ints)

pub returns-in_err-unix_leap_time : goal.returns-in_err-unix_leap_time
returns-in_err-unix_leap_time c =
    let before = one_before c.args.effect c.ranges.effect c.requires.not_least in
    match_none c.from_residual.result _ _ c.from_residual.ensures (rw before at c.in_err-unix_leap_time.ensures)

pub loop-position-init : goal.loop-position-init
loop-position-init c =
    let list = c.args.zone.now.transitions.now in
    let l = c.in_ok-unix_leap_time.unix_leap_time in
    let m = c.args.effect in
    let (change, at_index, wide) = c.requires.transition in
    let leap = rw (one_before m c.ranges.effect c.requires.not_least) at c.in_ok-unix_leap_time.ensures in
    let ahead : l <ℤ change.unix_leap_time = by_lt_z l change.unix_leap_time (λ less. less)
    (λ reached. absurd (omega (arith, ints, wide.least (m -ℤ pos 1) (l, leap, reached)))) in
    let rising = rising (zone_of_data c.args.zone.now) c.args.zone.now.sound in
    rw (to_z-of_z w64 l (search rules))
    (record { up_to = omega arith; ahead = ahead_from list rising l c.args.index change at_index ahead })

pub loop-position-preserved : goal.loop-position-preserved
loop-position-preserved c =
    let list = c.args.zone.now.transitions.now in
    let l = c.in_ok-unix_leap_time.unix_leap_time in
    let k = c.loop-position.position in
    let next = c.index-transitions-position.result in
    let before : k - 1 < length list = omega (
      arith,
      c.requires.inside,
      c.loop-position.invariant.up_to,
      c.loop-position-test.true,
    ) in
    let at = slice_get_read list _ (k - 1) next refl before c.index-transitions-position.is in
    let time = to_z-of_z w64 c.unix_leap_time.result (search rules) in
    let leap_time = to_z-of_z w64 l (search rules) in
    let ahead : l <ℤ next.unix_leap_time =
    omega (arith, ints, c.if-unix_leap_time.true, c.unix_leap_time.ensures, time, leap_time) in
    let rising = rising (zone_of_data c.args.zone.now) c.args.zone.now.sound in
    rw leap_time (record {
      up_to = omega (arith, c.loop-position.invariant.up_to);
      ahead = ahead_from list rising l (k - 1) next at ahead;
    })

pub returns-else-unix_leap_time : goal.returns-else-unix_leap_time
returns-else-unix_leap_time c =
    let list = c.args.zone.now.transitions.now in
    let l = c.in_ok-unix_leap_time.unix_leap_time in
    let k = c.loop-position.position in
    let last = c.index-transitions-position.result in
    let before : k - 1 < length list = omega (
      arith,
      c.requires.inside,
      c.loop-position.invariant.up_to,
      c.loop-position-test.true,
    ) in
    let at = slice_get_read list _ (k - 1) last refl before c.index-transitions-position.is in
    let time = to_z-of_z w64 c.unix_leap_time.result (search rules) in
    let leap_time = to_z-of_z w64 l (search rules) in
    let up_to : last.unix_leap_time ≤ℤ l =
    omega (arith, ints, c.if-unix_leap_time.false, c.unix_leap_time.ensures, time, leap_time) in
    let rising = rising (zone_of_data c.args.zone.now) c.args.zone.now.sound in
    let reached = reached_through list rising l (k - 1) last at up_to in (
      omega (arith, c.requires.inside, c.loop-position.invariant.up_to),
      record {
        time = l;
        time_is = rw (one_before c.args.effect c.ranges.effect c.requires.not_least) at c.in_ok-unix_leap_time.ensures;
        reached = subst (λ (i : ℕ). AreReached list l i) (omega (arith, c.loop-position-test.true)) reached;
        ahead = rw leap_time at c.loop-position.invariant.ahead;
      },
    )

pub returns-after-loop-position : goal.returns-after-loop-position
returns-after-loop-position c =
    let l = c.in_ok-unix_leap_time.unix_leap_time in (
      omega (arith, c.requires.inside, c.loop-position.invariant.up_to),
      record {
        time = l;
        time_is = rw (one_before c.args.effect c.ranges.effect c.requires.not_least) at c.in_ok-unix_leap_time.ensures;
        reached = λ i last less at. absurd (omega (arith, c.loop-position-test.false, less));
        ahead = rw (to_z-of_z w64 l (search rules)) at c.loop-position.invariant.ahead;
      },
    )
