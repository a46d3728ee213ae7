-- Without leap seconds each leap time is its own effect.
use Rattle.tz_zone.proofs.Common.{to_z-of_z, w64}
use Rattle.tz_zone.proofs.EmptyLists.{none_if_empty}
use Rattle.tz_zone.proofs.LeapTimes.{instant_bounds}
use Rattle.tz_zone.proofs.InstantsWithLeapTime.{plain_effect, plain_leap}
use Rattle.tz_zone.proofs.leap.leap_time.effect_if_reached.Goals as goal

pub returns-then-is_empty : goal.returns-then-is_empty
returns-then-is_empty c =
    let leaps = c.args.leap_seconds.now in
    let v = c.args.unix_leap_time in
    let none = none_if_empty leaps c.if-is_empty.ensures in
    rw (to_z-of_z w64 v c.ranges.unix_leap_time)
    (plain_effect leaps none v (instant_bounds v c.ranges.unix_leap_time).0, (plain_leap leaps none v).not_refused)
