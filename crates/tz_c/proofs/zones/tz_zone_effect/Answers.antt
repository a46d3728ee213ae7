-- The leap seconds are those of the zone.
use Rattle.tz_c.proofs.zones.tz_zone_effect.Goals as goal

pub effect-requires : goal.effect-requires
effect-requires c = c.args.zone.now.sound.leap_seconds_are
