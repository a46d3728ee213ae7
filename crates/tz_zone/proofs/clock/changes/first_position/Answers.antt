-- Before a truncated start the clock has no type, and none once leap times have left 64 bits.
use Rattle.tz_zone.proofs.Common.{to_z-of_z, rules, w64, zone_of_data}
use Rattle.tz_zone.proofs.RuleChanges.{none_before_start, none_after_end}
use Rattle.tz_zone.proofs.SegmentTypes.{match_none}
use Rattle.tz_zone.proofs.clock.changes.first_position.Goals as goal

pub returns-in_err-position : goal.returns-in_err-position
returns-in_err-position c =
    let u = c.args.unix_time in
    let first = c.in_ok-first.first in
    let begun = rw (to_z-of_z w64 u c.ranges.unix_time) at c.in_ok-first.ensures in
    let refused = rw (to_z-of_z w64 first (search rules)) at c.in_err-position.ensures in
    let z = zone_of_data c.args.zone.now in
    match_none c.from_residual-in_err-position.result _ _ c.from_residual-in_err-position.ensures
    (none_after_end z c.args.zone.now.sound.leap_seconds_are c.requires u first begun.2 begun.1 refused)

pub returns : goal.returns
returns c =
    let z = zone_of_data c.args.zone.now in
    let u = c.args.unix_time in
    let first = c.in_ok-first.first in
    let begun = rw (to_z-of_z w64 u c.ranges.unix_time) at c.in_ok-first.ensures in
    let fits = to_z-of_z w64 first (search rules) in
    let at = rw fits at c.in_ok-position.ensures in
    let none = none_before_start z c.args.zone.now.sound.leap_seconds_are c.requires u first begun.2 in
    rw fits (begun.0, at, none)
