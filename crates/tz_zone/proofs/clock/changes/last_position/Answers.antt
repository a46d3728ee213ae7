-- Once leap times have left 64 bits the clock has no type, and none before a truncated start.
use Rattle.tz_zone.proofs.Common.{◌≡◌, arith, to_z-of_z, rules, ints, w64, ℤ, ◌<ℤ◌, pos, zone_of_data, ◌-ℤ◌, SFits, negsuc, to_z, of_z}
use Rattle.tz_zone.proofs.RuleChanges.{none_past_last, none_up_to_start}
use Rattle.tz_zone.proofs.SegmentTypes.{match_none}
use Rattle.tz_zone.proofs.clock.changes.last_position.Goals as goal

one_before : (u : ℤ) → SFits w64 u → negsuc 9223372036854775807 <ℤ u
    → to_z w64 (of_z w64 (to_z w64 (of_z w64 u) -ℤ pos 1)) ≡ u -ℤ pos 1
one_before u fits low = omega (arith, ints)

pub returns-in_err-position : goal.returns-in_err-position
returns-in_err-position c =
    let z = zone_of_data c.args.zone.now in
    let u = c.args.unix_time in
    let last = c.last_instant_up_to-last.result in
    let bounds = rw (one_before u c.ranges.unix_time c.requires.not_least) at c.last_instant_up_to-last.ensures in
    let refused = rw (to_z-of_z w64 last (search rules)) at c.in_err-position.ensures in
    let are = c.args.zone.now.sound.leap_seconds_are in
    let some = c.requires.at_least_one in
    match_none c.from_residual.result _ _ c.from_residual.ensures
    (none_up_to_start z are some last u (none_past_last z are some last u bounds.past) refused
    (bounds.within last (omega (arith, ints))))

pub returns : goal.returns
returns c =
    let z = zone_of_data c.args.zone.now in
    let u = c.args.unix_time in
    let last = c.last_instant_up_to-last.result in
    let fits = to_z-of_z w64 last (search rules) in
    let bounds = rw (one_before u c.ranges.unix_time c.requires.not_least) at c.last_instant_up_to-last.ensures in
    let at = rw fits at c.in_ok-position.ensures in
    let none = none_past_last z c.args.zone.now.sound.leap_seconds_are c.requires.at_least_one last u bounds.past in
    rw fits (omega (arith, ints, bounds.up_to), at, none)
