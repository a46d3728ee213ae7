-- From one instant to the next the local time goes on, or jumps over the reading, or comes to it.
use Rattle.tz.proofs.NoneLost.{none_lost}
use Rattle.tz.proofs.laws.no_local_time_is_lost.Goals as goal

pub returns : goal.returns
returns c = none_lost
