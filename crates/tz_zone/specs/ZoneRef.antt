-- The parts of a borrowed zone, and of one that owns them.
use Rattle.tz_zone.specs.Table.{Zone, zone_with}
use Rattle.tz_zone.specs.ZoneOfData.{zone_of_data}
use Rattle.tz_zone.specs.declared.timezone.zone.TimeZone.{TimeZone}
use Rattle.tz_zone.specs.declared.timezone.zone_ref.TimeZoneRef.{TimeZoneRef}

-- the parts that a borrowed zone lends
abbrev pub zone_of : TimeZoneRef → Zone
zone_of z = zone_of_data z.zone_data

-- the parts that an owning zone has
abbrev pub own_zone_of : {A : Type 0} → TimeZone A → Zone
own_zone_of z = zone_with z.transitions.items z.local_time_types.items z.leap_seconds.items
    z.extra_rule
