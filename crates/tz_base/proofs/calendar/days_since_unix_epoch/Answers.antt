-- The days of the years from March on, those from March to the month, and those of the month.
use Rattle.std.proofs.Common.{arith}
use Rattle.std.proofs.lemmas.Int.{ints, to_z-of_z}
use mir.Syntax.{w32}
use Rattle.tz_base.proofs.MarchDays.{march_day_is, day_number_bounds}
use Rattle.tz_base.proofs.calendar.days_since_unix_epoch.Goals as goal

pub returns-clause-value : goal.returns-clause-value
returns-clause-value c =
    let same = to_z-of_z w32 c.args.year c.ranges.year in
    let early = rw same at c.moved_march_year.ensures.early in
    let late = rw same at c.moved_march_year.ensures.late in
    let days = c.days_from_march.ensures in
    let day = march_day_is c.args.year c.moved_march_year.result c.args.month c.args.month_day c.days_from_march.result
    early late days.early days.late in
    omega (
      arith,
      ints,
      c.days_of_march_years.ensures.value,
      c.days_of_march_years.ensures.bound,
      days.bound,
    )

pub returns-clause-bound : goal.returns-clause-bound
returns-clause-bound c =
    let bounds = day_number_bounds c.args.year c.args.month c.args.month_day c.ranges.year c.requires.month.0
    c.requires.month.1 c.requires.month_day (omega arith) in
    let value = returns-clause-value c in
    (omega (arith, ints), omega (arith, ints))
