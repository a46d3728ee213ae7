-- An instant before the start comes before the first one that is not.
use Rattle.tz_zone.proofs.Common.{arith, to_z-of_z, rules, ints, w64, sym, ◌≤ℤ◌, ◌<ℤ◌, pos, by_lt_z, w128}
use Rattle.tz_zone.proofs.LeapTimes.{IsInstant-from_bounds, instant_bounds}
use Rattle.tz_zone.proofs.leap.leap_time.first_begun.Goals as goal

pub returns-in-Ok : goal.returns-in-Ok
returns-in-Ok c =
    let u = c.args.unix_time in
    let first = c.in-Ok.first in
    let low = (instant_bounds u c.ranges.unix_time).0 in
    let found = rw (to_z-of_z w128 c.first_instant.result (search rules)) at c.in-Ok.ensures in
    let begun = rw (sym found.1) at c.first_instant.ensures.begun in
    let later : u ≤ℤ first = by_lt_z first u
    (λ h. absurd (begun u (omega (arith, ints, h))
    (rw (to_z-of_z w64 u c.ranges.unix_time) at c.if-has_begun.ensures))) (λ h. h) in
    rw (to_z-of_z w64 first (search rules)) (
      later,
      begun first (omega (arith, ints)),
      λ v from until. (rw (sym found.1) at c.first_instant.ensures.before) v
          (omega (arith, ints, low, from)) until,
    )

pub returns-in-Err : goal.returns-in-Err
returns-in-Err c = λ v from to.
    let u = c.args.unix_time in
    let first = c.first_instant.result in
    let low = (instant_bounds u c.ranges.unix_time).0 in
    let outside = rw (to_z-of_z w128 first (search rules)) at c.in-Err.ensures in
    let after : u <ℤ first = by_lt_z u first (λ h. h)
    (λ h. absurd (c.first_instant.ensures.begun u h
    (rw (to_z-of_z w64 u c.ranges.unix_time) at c.if-has_begun.ensures))) in
    let past : pos 9223372036854775807 <ℤ first =
    by_lt_z (pos 9223372036854775807) first (λ h. h)
    (λ h. absurd (outside (IsInstant-from_bounds first (omega (arith, ints, low, after)) h))) in
    c.first_instant.ensures.before v (omega (arith, ints, low, from)) (omega (arith, ints, to, past))
