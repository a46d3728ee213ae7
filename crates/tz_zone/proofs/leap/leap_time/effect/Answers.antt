-- The wide effect is the effect, unless it lies past 64 bits or has no leap time.
use Rattle.tz_zone.proofs.Common.{to_z-of_z, rules, w64, refl, sym, SFits, IsWideEffect, w128}
use Rattle.tz_zone.proofs.LeapAnswers.{effect_none, effect_refused, effect_found}
use Rattle.tz_zone.proofs.leap.leap_time.effect.Goals.{In-Ok}
use Rattle.tz_zone.proofs.leap.leap_time.effect.Goals as goal

pub returns-in_default-clause-err : goal.returns-in_default-clause-err
returns-in_default-clause-err c =
    let outside = rw (to_z-of_z w128 c.wide_effect.result (search rules)) at c.in_default.ensures in (
      refl,
      effect_none c.args.leap_seconds.now c.args.unix_leap_time c.wide_effect.result
          (rw (to_z-of_z w64 c.args.unix_leap_time c.ranges.unix_leap_time) at c.wide_effect.ensures) outside,
    )

-- the number that is an instant
of_effect : (c : In-Ok) → IsWideEffect c.args.leap_seconds.now c.args.unix_leap_time c.in-Ok.unix_time
of_effect c =
    rw (
      to_z-of_z w64 c.args.unix_leap_time c.ranges.unix_leap_time,
      sym
          (rw (to_z-of_z w128 c.wide_effect.result (search rules)) at c.in-Ok.ensures).1,
    ) at c.wide_effect.ensures

pub returns-then-not-has_leap_time-clause-err : goal.returns-then-not-has_leap_time-clause-err
returns-then-not-has_leap_time-clause-err c =
    let m = c.in-Ok.unix_time in
    let refused = rw (to_z-of_z w64 m (search rules)) at c.if-not-has_leap_time.ensures in (
      refl,
      effect_refused c.args.leap_seconds.now c.requires c.args.unix_leap_time m
          (of_effect (goal.at.returns-then-not-has_leap_time-clause-err c).In-Ok) refused,
    )

pub returns-clause-ok : goal.returns-clause-ok
returns-clause-ok c =
    let v = c.args.unix_leap_time in
    let m = c.in-Ok.unix_time in
    let fits : SFits w64 m = search rules in
    rw (to_z-of_z w64 m fits) (effect_found c.args.leap_seconds.now v m (search rules)
    (of_effect (goal.at.returns-clause-ok c).In-Ok) fits
    (rw (to_z-of_z w64 m fits) at c.if-not-has_leap_time.ensures))
