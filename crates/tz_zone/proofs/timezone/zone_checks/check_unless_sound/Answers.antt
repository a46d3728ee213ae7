-- They are sound as the caller says.
use Rattle.tz_zone.proofs.timezone.zone_checks.check_unless_sound.Goals as goal

pub returns-then-are_sound-clause-ok : goal.returns-then-are_sound-clause-ok
returns-then-are_sound-clause-ok c = c.requires c.if-are_sound.true
