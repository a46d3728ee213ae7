-- The zone that slices of plain data are.
use Rattle.tz_zone.specs.Table.{Zone, zone_with}
use Rattle.tz_zone.specs.BorrowedRules.{borrowed_rule}
use Rattle.tz_zone.specs.declared.timezone.zone_data.ZoneData.{ZoneData}

abbrev pub zone_of_data : ZoneData → Zone
zone_of_data z = zone_with z.transitions.now z.local_time_types.now z.leap_seconds.now
    (borrowed_rule z.rule)
