use Rattle.tz_zone.proofs.timezone.zone.TimeZone.named.Goals as goal

pub returns : goal.returns
returns g c = rw (c.new-settings.ensures.directories, c.new-settings.ensures.reader) at c.zone_of_name.ensures
