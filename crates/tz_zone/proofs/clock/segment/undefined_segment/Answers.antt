-- After an instant that has no leap time, and is not before a truncated start, none has one.
use Rattle.tz_zone.proofs.Common.{◌≡◌, arith, to_z-of_z, rules, ints, w64, pos, ◌-ℤ◌, ◌+ℤ◌, SFits, by_lt_z}
use Rattle.tz_zone.proofs.LeapTimes.{instant_bounds}
use Rattle.tz_zone.proofs.clock.segment.undefined_segment.Goals as goal

pub returns-then-has_begun-clause-refused : goal.returns-then-has_begun-clause-refused
returns-then-has_begun-clause-refused c =
    rw (to_z-of_z w64 c.first_past.result (search rules)) (λ v low high. c.first_past.ensures.refused v low)

pub first_past-requires-clause-refused : goal.first_past-requires-clause-refused
first_past-requires-clause-refused c = rw (to_z-of_z w64 c.args.unix_time c.ranges.unix_time) c.requires.refused

pub returns-clause-last : goal.returns-clause-last
returns-clause-last c =
    let last = c.last_before_start.result in
    let fits : SFits w64 last = search rules in
    let high = (instant_bounds last fits).1 in
    let same : last +ℤ pos 1 -ℤ pos 1 ≡ last = omega (arith, ints) in
    rw (to_z-of_z w64 last fits) (λ not_greatest. rw same (
      c.last_before_start.ensures.before last (omega (arith, ints)),
      c.last_before_start.ensures.begun (by_lt_z last (pos 9223372036854775807) (λ h. h)
          (λ h. absurd (not_greatest (omega (arith, ints, h, high))))),
    ))
