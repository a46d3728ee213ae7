-- Before a truncated start the effect is that of the start.
use Rattle.tz_zone.proofs.Common.{◌≡◌, arith, to_z-of_z, rules, ints, w64, ◌<ℤ◌, to_z, of_z, w128}
use Rattle.tz_zone.proofs.WideEffects.{IsWideEffect-early}
use Rattle.tz_zone.proofs.leap.leap_time.wide_effect.Goals as goal

pub returns-in-Some : goal.returns-in-Some
returns-in-Some c =
    let v = c.args.unix_leap_time in
    let start = c.in-Some.start.now in
    let fits = c.ranges.unix_leap_time in
    let time = c.unix_leap_time.ensures in
    let early : v <ℤ start.unix_leap_time = omega (arith, ints, c.if-unix_leap_time.true) in
    let same : to_z w64 (of_z w64 c.unix_leap_time-in-Some.result) ≡ start.unix_leap_time =
    omega (arith, ints, c.unix_leap_time-in-Some.ensures) in
    rw (to_z-of_z w128 c.wide_effect_from_start.result (search rules))
    (IsWideEffect-early c.args.leap_seconds.now c.requires v c.wide_effect_from_start.result start c.in-Some.ensures
    early (rw same at c.wide_effect_from_start.ensures))
