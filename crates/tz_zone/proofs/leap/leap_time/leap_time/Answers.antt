-- Without leap seconds the leap time is the instant.
use Rattle.tz_zone.proofs.Common.{to_z-of_z, w64}
use Rattle.tz_zone.proofs.EmptyLists.{none_if_empty}
use Rattle.tz_zone.proofs.InstantsWithLeapTime.{plain_leap}
use Rattle.tz_zone.proofs.leap.leap_time.leap_time.Goals as goal

pub returns-then-is_empty : goal.returns-then-is_empty
returns-then-is_empty c =
    let leaps = c.args.leap_seconds.now in
    rw (to_z-of_z w64 c.args.unix_time c.ranges.unix_time)
    (plain_leap leaps (none_if_empty leaps c.if-is_empty.ensures) c.args.unix_time)
