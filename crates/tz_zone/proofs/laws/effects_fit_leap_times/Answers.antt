-- Leap times do not fall, and an effect is the least instant at which its leap time is reached.
use Rattle.tz_zone.proofs.LeapTimes.{effect_fits}
use Rattle.tz_zone.proofs.laws.effects_fit_leap_times.Goals as goal

pub returns : goal.returns
returns c = λ leaps v u w l are. effect_fits leaps are v u w l
