-- The parts of the clock exclude one another, and each has one type.
use Rattle.tz_zone.proofs.Clocks.{one_type}
use Rattle.tz_zone.proofs.laws.clocks_have_one_type.Goals as goal

pub returns : goal.returns
returns c = one_type
