-- The leap seconds are those of the zone, and the leap time is that of the instant.
use Rattle.tz_c.proofs.Common.{refl, inl, rules, SFits, to_z-of_z, w64}
use Rattle.tz_c.proofs.zones.tz_zone_leap_time.Goals as goal

pub unix_time_to_unix_leap_time-requires : goal.unix_time_to_unix_leap_time-requires
unix_time_to_unix_leap_time-requires c = c.args.zone.now.sound.leap_seconds_are

pub returns-in-Ok-clause-answer : goal.returns-in-Ok-clause-answer
returns-in-Ok-clause-answer c =
    let fits : SFits w64 c.in-Ok.leap_time = search rules in
    let is = rw (to_z-of_z w64 c.args.unix_time c.ranges.unix_time) at c.in-Ok.ensures.ok in
    rw (to_z-of_z w64 c.in-Ok.leap_time fits) (inl (refl, is))
