-- The index at which all before it are reached, and it is not, is the count.
use Rattle.tz_zone.proofs.Common.{to_z-of_z}
use Rattle.tz_zone.proofs.LeapLists.{IsReachedCount, IsReached-below, IsReached-from_count, IsReachedCount-from_point}
use Rattle.tz_zone.proofs.leap.leap_time.leap_seconds_reached.Goals as goal

count : (c : goal.After-after_last_reached)
    → IsReachedCount c.args.leap_seconds.now c.args.unix_time c.after_last_reached.result
count c =
    let point = c.after_last_reached.ensures in
    IsReachedCount-from_point c.args.leap_seconds.now c.requires c.args.unix_time c.after_last_reached.result
    point.within (simp (to_z-of_z, c.ranges.unix_time) at point.reached)
    (simp (to_z-of_z, c.ranges.unix_time) at point.ahead)

pub returns-clause-reached : goal.returns-clause-reached
returns-clause-reached c = λ i l h at. IsReached-from_count c.args.leap_seconds.now c.args.unix_time
    c.after_last_reached.result i l (count c) h at

pub returns-clause-beyond : goal.returns-clause-beyond
returns-clause-beyond c = λ i l r. IsReached-below c.args.leap_seconds.now c.args.unix_time c.after_last_reached.result
    i l (count c) r
