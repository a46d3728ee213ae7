-- Every fourth of the years that 100 divides is one that 400 divides.
use Rattle.std.proofs.Common.{arith}
use Rattle.tz_base.specs.Cycles.{days_of_years}
use Rattle.tz_base.proofs.calendar.days_before_moved_year.Goals as goal

pub returns-clause-value : goal.returns-clause-value
unfolding days_of_years
returns-clause-value c = omega (arith, c.centuries_before.ensures)
