-- What is reached is so from the wide effect on, unless that lies past the last instant with a leap time.
use Rattle.tz_zone.proofs.Common.{arith, to_z-of_z, rules, ints, w64, sym, inr, ◌≤ℤ◌, SFits, IsWideEffect, w128}
use Rattle.tz_zone.proofs.LeapTimes.{IsInstant-from_bounds, past_later}
use Rattle.tz_zone.proofs.LeapReached.{past_if_begun}
use Rattle.tz_zone.proofs.leap.leap_time.effect_by_seconds.Goals.{In-Ok}
use Rattle.tz_zone.proofs.leap.leap_time.effect_by_seconds.Goals as goal

pub returns-in_default : goal.returns-in_default
returns-in_default c = λ u high reached.
    let m = c.wide_effect.result in
    let wide = rw (to_z-of_z w64 c.args.unix_leap_time c.ranges.unix_leap_time) at c.wide_effect.ensures in
    (rw (to_z-of_z w128 m (search rules)) at c.in_default.ensures)
    (IsInstant-from_bounds m wide.low (omega (arith, ints, high, wide.least u reached)))

-- the number that is an instant
of_effect : (c : In-Ok) → IsWideEffect c.args.leap_seconds.now c.args.unix_leap_time c.in-Ok.effect
of_effect c =
    rw (
      to_z-of_z w64 c.args.unix_leap_time c.ranges.unix_leap_time,
      sym
          (rw (to_z-of_z w128 c.wide_effect.result (search rules)) at c.in-Ok.ensures).1,
    ) at c.wide_effect.ensures

pub returns-then-last_instant_up_to-effect : goal.returns-then-last_instant_up_to-effect
returns-then-last_instant_up_to-effect c = λ u high reached.
    let m = c.in-Ok.effect in
    let last = rw (to_z-of_z w64 m (search rules)) at c.last_instant_up_to.ensures in
    let past = last.past m (omega (
      arith,
      ints,
      c.if-last_instant_up_to-effect.true,
      to_z-of_z w64 m (search rules),
      to_z-of_z w64
          c.last_instant_up_to.result (search rules),
    )) (omega (arith, ints)) in
    reached.1.not_refused (inr (past_later c.args.leap_seconds.now c.requires m u
    ((of_effect (goal.at.returns-then-last_instant_up_to-effect c).In-Ok).least u reached) past))

pub returns : goal.returns
returns c =
    let m = c.in-Ok.effect in
    let fits : SFits w64 m = search rules in
    let wide = of_effect (goal.at.returns c).In-Ok in
    let up_to : m ≤ℤ c.last_instant_up_to.result =
    omega (
      arith,
      ints,
      c.if-last_instant_up_to-effect.false,
      to_z-of_z w64 m fits,
      to_z-of_z w64
          c.last_instant_up_to.result (search rules),
    ) in
    rw (to_z-of_z w64 m fits) (
      wide,
      λ refused. (rw (to_z-of_z w64 m fits) at c.last_instant_up_to.ensures).within m up_to
          (past_if_begun c.args.leap_seconds.now c.requires m wide.begun refused),
    )
