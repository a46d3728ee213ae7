-- Before a truncated start the clock has no type, and none once leap times have left 64 bits.
use Rattle.tz_zone.proofs.Common.{to_z-of_z, rules, w64, inl, zone_of_data, SFits, by_lt_z, MatchOption-at_none}
use Rattle.tz_zone.proofs.SegmentTypes.{match_none}
use Rattle.tz_zone.proofs.InstantsWithLeapTime.{no_type_refused, past_from}
use Rattle.tz_zone.proofs.clock.window_types.first_stage.Goals as goal

pub returns-in_err-position-clause-stage : goal.returns-in_err-position-clause-stage
returns-in_err-position-clause-stage c =
    let zone = c.args.zone.now in
    let z = zone_of_data zone in
    let first = c.in_ok-first.first in
    let some = (MatchOption-at_none {o = c.args.position} _ _ c.in_default.is c.requires.position).0 in
    let begun = rw (to_z-of_z w64 c.args.unix_time c.ranges.unix_time) at c.in_ok-first.ensures in
    let none = MatchOption-at_none {o = c.position_at.result} _ _ c.in_err-position.was
    c.position_at.ensures.position in
    let refused = rw (to_z-of_z w64 first (search rules)) at none in
    match_none c.from_residual-in_err-position.result _ _ c.from_residual-in_err-position.ensures
    (λ v low high. no_type_refused z some v (by_lt_z v first (λ before. inl (begun.2 v low before))
    (λ from. past_from z.leap_seconds zone.sound.leap_seconds_are first v begun.1 refused from)))

pub returns-clause-stage : goal.returns-clause-stage
returns-clause-stage c =
    let first = c.in_ok-first.first in
    let fits : SFits w64 first = search rules in
    let some = (MatchOption-at_none {o = c.args.position} _ _ c.in_default.is c.requires.position).0 in
    let begun = rw (to_z-of_z w64 c.args.unix_time c.ranges.unix_time) at c.in_ok-first.ensures in
    let (within, at) = rw (c.requires.view, to_z-of_z w64 first fits) at c.in_ok-position.ensures.position in
    rw (to_z-of_z w64 first fits) (
      begun.0,
      record {
        within = within;
        type_is = c.type_before-local_time_type-2.ensures.value;
        instant = fits;
        ahead = λ some. (at.time, at.time_is, at.ahead);
        reached = λ some. (at.time, at.time_is, at.reached);
      },
      λ v low before. no_type_refused (zone_of_data c.args.zone.now) some v (inl (begun.2 v low before)),
    )
