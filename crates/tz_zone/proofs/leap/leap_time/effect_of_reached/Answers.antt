-- The effect of what is reached at an instant is no later, so it is one of 64 bits.
use Rattle.tz_zone.proofs.Common.{◌≡◌, arith, to_z-of_z, rules, ints, w64, [], IsWideEffect, IsInstant, w128}
use Rattle.tz_zone.proofs.EmptyLists.{none_if_empty}
use Rattle.tz_zone.proofs.LeapTimes.{IsInstant-from_bounds, instant_bounds}
use Rattle.tz_zone.proofs.InstantsWithLeapTime.{plain_effect}
use Rattle.tz_zone.proofs.leap.leap_time.effect_of_reached.Goals as goal

effect_of : (c : goal.After-wide_effect)
    → IsWideEffect c.args.leap_seconds.now c.args.unix_leap_time c.wide_effect.result
effect_of c = rw (to_z-of_z w64 c.args.unix_leap_time c.ranges.unix_leap_time) at c.wide_effect.ensures

effect_fits : (c : goal.After-wide_effect) → IsInstant c.wide_effect.result
effect_fits c =
    IsInstant-from_bounds c.wide_effect.result (effect_of c).low
    (omega (arith, ints, (effect_of c).least c.requires.reached.0 c.requires.reached.2, c.requires.reached.1))

pub returns-then-is_empty : goal.returns-then-is_empty
returns-then-is_empty c =
    let leaps = c.args.leap_seconds.now in
    let none : leaps ≡ [] = none_if_empty leaps c.if-is_empty.ensures in
    rw (to_z-of_z w64 c.args.unix_leap_time c.ranges.unix_leap_time)
    (plain_effect leaps none c.args.unix_leap_time (instant_bounds c.args.unix_leap_time c.ranges.unix_leap_time).0)

pub overflow_cast-result : goal.overflow_cast-result
overflow_cast-result c =
    rw (to_z-of_z w128 c.wide_effect.result (search rules)) (effect_fits c)

pub returns : goal.returns
returns c =
    rw (to_z-of_z w128 c.wide_effect.result (search rules), to_z-of_z w64 c.wide_effect.result (effect_fits c))
    (effect_of c)
