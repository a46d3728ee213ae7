-- The correction of the last leap second reached gives the leap time, which is one of 64 bits.
use Rattle.tz_zone.proofs.Common.{◌≡◌, arith, to_z-of_z, ints, w64, ◌+ℤ◌, to_z, of_z, correction_before}
use Rattle.tz_zone.proofs.LeapLists.{IsReachedCount-from_items}
use Rattle.tz_zone.proofs.LeapTimes.{leap_time_fits, IsLeapTime-from_count}
use Rattle.tz_zone.proofs.leap.leap_time.existing_leap_time.Goals as goal

pub returns : goal.returns
returns c =
    let leaps = c.args.leap_seconds.now in
    let k = c.leap_seconds_reached-reached.result in
    let reached = c.leap_seconds_reached-reached.ensures in
    let count = IsReachedCount-from_items leaps c.args.unix_time k reached.within
    (simp (to_z-of_z, c.ranges.unix_time) at reached.reached)
    (simp (to_z-of_z, c.ranges.unix_time) at reached.beyond) in
    let sum = leap_time_fits leaps c.requires.leaps c.args.unix_time k count c.ranges.unix_time c.requires.defined in
    let correction = c.correction_before.ensures in
    let same : to_z w64 (of_z w64 (to_z w64 (of_z w64 c.args.unix_time) +ℤ to_z w64 (of_z w64 c.from.result)))
    ≡ c.args.unix_time +ℤ correction_before leaps k = omega (arith, ints) in
    rw same (IsLeapTime-from_count leaps c.requires.leaps c.args.unix_time k count c.requires.defined)
