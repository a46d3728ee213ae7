use Rattle.tz_zone.proofs.timezone.zone.TimeZone.from_posix_tz.Goals as goal

pub returns : goal.returns
returns g c = rw (c.new-settings.ensures.directories, c.new-settings.ensures.reader) at c.parse_posix_tz.ensures
