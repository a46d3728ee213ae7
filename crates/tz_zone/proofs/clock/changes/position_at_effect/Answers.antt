-- Without leap seconds no other transition takes effect there; with some those that the loop passes are reached, and
-- the next one is ahead.
use Rattle.tz_zone.proofs.Common.{arith, to_z-of_z, rules, ints, w64, refl, ◌≤ℤ◌, ◌<ℤ◌, zone_of_data, slice_get_read}
use Rattle.tz_zone.proofs.EmptyLists.{none_if_empty}
use Rattle.tz_zone.proofs.LeapTimes.{one_leap_time}
use Rattle.tz_zone.proofs.PositionRuns.{plain_position}
use Rattle.tz_zone.proofs.Positions.{reached_at}
use Rattle.tz_zone.proofs.RisingTimes.{rising, ahead_from, none_ahead, reached_through}
use Rattle.tz_zone.proofs.clock.changes.position_at_effect.Goals as goal

pub returns-then-is_empty-clause-at : goal.returns-then-is_empty-clause-at
returns-then-is_empty-clause-at c =
    let change = c.requires.transition in
    let none = none_if_empty c.args.zone.now.leap_seconds.now c.if-is_empty.ensures in (
      omega (arith, c.requires.inside),
      plain_position (zone_of_data c.args.zone.now) c.args.zone.now.sound none c.args.index c.args.effect
          change.0 change.1 change.2,
    )

pub loop-position-init : goal.loop-position-init
loop-position-init c =
    let (change, at_index, wide) = c.requires.transition in
    let l = c.existing_leap_time-unix_leap_time.result in
    let leap = rw (to_z-of_z w64 c.args.effect c.ranges.effect) at c.existing_leap_time-unix_leap_time.ensures in
    let reached = wide.reached c.requires.defined in
    let same = one_leap_time c.args.zone.now.leap_seconds.now c.args.effect reached.0 l reached.1 leap in
    let up_to : change.unix_leap_time ≤ℤ l = omega (arith, ints, reached.2, same) in
    let rising = rising (zone_of_data c.args.zone.now) c.args.zone.now.sound in
    rw (to_z-of_z w64 l (search rules)) (record {
      after = omega arith;
      within = omega (arith, c.requires.inside);
      reached = reached_through c.args.zone.now.transitions.now rising l c.args.index change at_index up_to;
    })

pub loop-position-preserved : goal.loop-position-preserved
loop-position-preserved c =
    let list = c.args.zone.now.transitions.now in
    let l = c.existing_leap_time-unix_leap_time.result in
    let k = c.loop-position.position in
    let next = c.index-transitions-position.result in
    let time = to_z-of_z w64 c.unix_leap_time.result (search rules) in
    let leap_time = to_z-of_z w64 l (search rules) in
    let at_next = slice_get_read list _ k next refl c.loop-position-test.true c.index-transitions-position.is in
    let up_to : next.unix_leap_time ≤ℤ l =
    omega (arith, ints, c.if-unix_leap_time.true, c.unix_leap_time.ensures, time, leap_time) in
    rw leap_time (record {
      after = omega (arith, c.loop-position.invariant.after);
      within = omega (arith, c.loop-position-test.true);
      reached = reached_through list (rising (zone_of_data c.args.zone.now) c.args.zone.now.sound) l k next at_next
          up_to;
    })

pub returns-else-unix_leap_time-clause-at : goal.returns-else-unix_leap_time-clause-at
returns-else-unix_leap_time-clause-at c =
    let list = c.args.zone.now.transitions.now in
    let l = c.existing_leap_time-unix_leap_time.result in
    let k = c.loop-position.position in
    let next = c.index-transitions-position.result in
    let time = to_z-of_z w64 c.unix_leap_time.result (search rules) in
    let leap_time = to_z-of_z w64 l (search rules) in
    let at_next = slice_get_read list _ k next refl c.loop-position-test.true c.index-transitions-position.is in
    let before : l <ℤ next.unix_leap_time =
    omega (arith, ints, c.if-unix_leap_time.false, c.unix_leap_time.ensures, time, leap_time) in
    let z = zone_of_data c.args.zone.now in
    let leap = rw (to_z-of_z w64 c.args.effect c.ranges.effect) at c.existing_leap_time-unix_leap_time.ensures in
    let reached = rw leap_time at c.loop-position.invariant.reached in (
      c.loop-position.invariant.within,
      reached_at z c.args.effect l k leap
          (reached, ahead_from list (rising z c.args.zone.now.sound) l k next at_next before),
    )

pub returns-after-loop-position-clause-at : goal.returns-after-loop-position-clause-at
returns-after-loop-position-clause-at c =
    let list = c.args.zone.now.transitions.now in
    let l = c.existing_leap_time-unix_leap_time.result in
    let k = c.loop-position.position in
    let leap = rw (to_z-of_z w64 c.args.effect c.ranges.effect) at c.existing_leap_time-unix_leap_time.ensures in
    let reached = rw (to_z-of_z w64 l (search rules)) at c.loop-position.invariant.reached in (
      c.loop-position.invariant.within,
      reached_at (zone_of_data c.args.zone.now) c.args.effect l k leap
          (reached, none_ahead list k l (omega (arith, c.loop-position-test.false))),
    )
