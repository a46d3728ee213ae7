-- The next transition ends the window's first type, and the one after it the second.
use Rattle.tz_zone.proofs.Common.{◌≡◌, arith, to_z-of_z, rules, ints, w64, ◌≤ℤ◌, Some, ◌<ℤ◌, zone_of_data, ◌+◌, slice_get, IsWideEffect, OnTrue_at}
use Rattle.tz_zone.proofs.Positions.{reached_at, one_type, type_while_before, two_types}
use Rattle.tz_zone.proofs.LeapTimes.{instant_bounds}
use Rattle.tz_zone.proofs.clock.window_types.types_at_position.Goals as goal

pub returns-then-stay_before-clause-types : goal.returns-then-stay_before-clause-types
returns-then-stay_before-clause-types c =
    let zone = c.args.zone in
    let z = zone_of_data zone in
    let low = c.args.low in
    let at = reached_at z low c.args.low_leap_time c.args.position c.requires.leap
    (rw c.requires.view at c.requires.at) in
    let at_next = rw c.requires.view at c.look-next.ensures.value in
    let next_is = to_z-of_z w64 c.unix_leap_time-next_leap_time.result (search rules) in
    let high_is = to_z-of_z w64 c.args.high c.ranges.high in
    let ensured = rw (to_z-of_z w64 low c.ranges.low, high_is) at c.stay_before.ensures in
    let stays = OnTrue_at c.if-stay_before.true ensured in
    type_while_before z zone.sound c.args.position low c.args.high at c.look-next.result c.type_before.result.now
    at_next
    (λ v from to.
    let here = stays v from to in
    (here.0, here.1, omega (arith, ints, here.2, c.unix_leap_time-next_leap_time.ensures, next_is)))
    c.type_before.ensures.value

pub returns-then-high_leap_time-next_leap_time-clause-types :
    goal.returns-then-high_leap_time-next_leap_time-clause-types
returns-then-high_leap_time-next_leap_time-clause-types c =
    let zone = c.args.zone in
    let z = zone_of_data zone in
    let low = c.args.low in
    let h = c.in-Some.high_leap_time in
    let leap = rw (to_z-of_z w64 c.args.high c.ranges.high) at c.in-Some.ensures in
    let at = reached_at z low c.args.low_leap_time c.args.position c.requires.leap
    (rw c.requires.view at c.requires.at) in
    let next = c.look-next.result in
    let at_next = rw c.requires.view at c.look-next.ensures.value in
    let next_time = c.unix_leap_time-next_leap_time in
    let next_is = to_z-of_z w64 next_time.result (search rules) in
    let h_is = to_z-of_z w64 h (search rules) in
    let before : h <ℤ next.unix_leap_time =
    omega (arith, ints, c.if-high_leap_time-next_leap_time.true, next_time.ensures, next_is, h_is) in
    let type = c.type_before-then-high_leap_time-next_leap_time in
    one_type z zone.sound c.args.position low c.args.high h at leap next type.result.now at_next before
    type.ensures.value

pub effect_of_reached-unix_time-requires-clause-reached : goal.effect_of_reached-unix_time-requires-clause-reached
effect_of_reached-unix_time-requires-clause-reached c =
    let h = c.in-Some.high_leap_time in
    let leap = rw (to_z-of_z w64 c.args.high c.ranges.high) at c.in-Some.ensures in
    let next = c.unix_leap_time-next_leap_time.result in
    let next_is = to_z-of_z w64 next (search rules) in
    let reached : next ≤ℤ h =
    omega (arith, ints, c.if-high_leap_time-next_leap_time.false, next_is, to_z-of_z w64 h (search rules)) in
    (c.args.high, (instant_bounds c.args.high c.ranges.high).1, (h, leap, rw next_is reached))

pub type_of-after-requires : goal.type_of-after-requires
type_of-after-requires c =
    let at_next = rw c.requires.view at c.look-next.ensures.value in
    (c.args.zone.sound.transitions_are c.args.position).0 c.look-next.result at_next

pub returns-clause-types : goal.returns-clause-types
returns-clause-types c =
    let zone = c.args.zone in
    let z = zone_of_data zone in
    let low = c.args.low in
    let high = c.args.high in
    let position = c.args.position in
    let h = c.in-Some.high_leap_time in
    let h_is = to_z-of_z w64 h (search rules) in
    let leap = rw (to_z-of_z w64 high c.ranges.high) at c.in-Some.ensures in
    let at = reached_at z low c.args.low_leap_time position c.requires.leap (rw c.requires.view at c.requires.at) in
    let next = c.look-next.result in
    let later = c.look-later.result in
    let before = c.type_before-before.result.now in
    let after = c.type_of-after.result.now in
    let at_next = rw c.requires.view at c.look-next.ensures.value in
    let at_later : slice_get z.transitions (position + 1) ≡ Some later =
    rw (c.look-next.ensures.looks.same, c.requires.view) at c.look-later.ensures.value in
    let next_time = c.unix_leap_time-next_leap_time in
    let next_is = to_z-of_z w64 next_time.result (search rules) in
    let later_time = c.unix_leap_time-later_leap_time in
    let later_is = to_z-of_z w64 later_time.result (search rules) in
    let reached : next.unix_leap_time ≤ℤ h =
    omega (arith, ints, c.if-high_leap_time-next_leap_time.false, next_time.ensures, next_is, h_is) in
    let ahead : h <ℤ later.unix_leap_time =
    omega (arith, ints, c.if-later_leap_time-high_leap_time.false, later_time.ensures, later_is, h_is) in
    let jump = c.effect_of_reached-unix_time.result in
    let wide : IsWideEffect z.leap_seconds next.unix_leap_time jump =
    rw (next_is, next_time.ensures) at c.effect_of_reached-unix_time.ensures in
    rw (to_z-of_z w64 jump (search rules))
    (two_types z zone.sound position low high h at leap next later jump before after at_next at_later reached ahead
    wide c.type_before-before.ensures.value c.type_of-after.ensures)
