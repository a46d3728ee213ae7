-- Of two least instants neither is before the other.
use Rattle.tz_zone.proofs.LeapTimes.{one_effect}
use Rattle.tz_zone.proofs.laws.effects_are_unique.Goals as goal

pub returns : goal.returns
returns c = one_effect
