-- The window is as wide as the offsets lie apart.
use Rattle.tz.proofs.Common.{arith, ints}
use Rattle.tz.proofs.datetime.gaps_and_folds.window.Goals as goal

pub returns-clause-width : goal.returns-clause-width
returns-clause-width c = omega (
  arith,
  ints,
  c.from.ensures,
  c.from-2.ensures,
  c.ranges.least.sfits,
  c.ranges.greatest.sfits,
)
