-- The bytes that were found are opened, and a fault is passed on.
use Rattle.tz_zone.proofs.Common.{own_zone_of}
use Rattle.tz_zone.proofs.SettingsAnswers.{opened_bytes}
use Rattle.tz_zone.proofs.timezone.settings.zone_of_found.Goals as goal

pub returns-in-Ok : goal.returns-in-Ok
returns-in-Ok g c = opened_bytes own_zone_of c.zone_of_bytes.result c.args.found c.in-Ok.bytes c.deref.result.now
    c.in-Ok.is c.deref.ensures.value c.zone_of_bytes.ensures
