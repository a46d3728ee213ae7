-- The zone that C passes.
use Rattle.tz_zone.specs.Table.{Zone}
use Rattle.tz_c.specs.Zones.{zone_of_parts}
use Rattle.tz_c.specs.declared.zone_data.TzZone.{TzZone}

abbrev pub zone_of_data : TzZone → Zone
zone_of_data z = zone_of_parts z.parts
