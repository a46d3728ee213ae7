-- A year counted by the average length begins less than two days from the one that is meant.
use Rattle.tz_rule.proofs.Common.{arith, ints, refl}
use Rattle.tz_rule.proofs.InnerSwitches.{IsLikelyYear-by_average}
use Rattle.tz_rule.proofs.timezone.year_table.likely_year.Goals as goal

pub returns-clause-likely : goal.returns-clause-likely
returns-clause-likely c = IsLikelyYear-by_average c.args.unix_time _ _
    (omega (arith, ints, c.moved_seconds.ensures, c.if-unix_time.false, c.if-unix_time-gt-GREATEST_DISTANCE.false)) refl
