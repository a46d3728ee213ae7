-- The table has the days from March 1st to each month.
use Rattle.std.proofs.Common.{false, arith, ◌-◌}
use Rattle.tz_base.proofs.MonthsFromMarch.{days_from_march-is}
use Rattle.tz_base.proofs.calendar.days_from_march.Goals as goal

pub returns : goal.returns
returns c =
    record {
      early = λ early leap. (days_from_march-is leap (c.args.month - 1) (omega arith)).early (omega arith);
      late = λ late leap. (days_from_march-is leap (c.args.month - 1) (omega arith)).late (omega arith);
      bound = (days_from_march-is false (c.args.month - 1) (omega arith)).bound;
    }
