-- A valid day is in the years of 32 bits.
use Rattle.std.proofs.Common.{arith, rules}
use Rattle.std.proofs.lemmas.Int.{ints, to_z-of_z}
use mir.Syntax.{w32}
use mir.Val.{SFits}
use Rattle.tz_base.proofs.DaysOfYears.{day_in_year, first_day_bounds}
use Rattle.tz_base.proofs.fields.Fields.day.Goals as goal

pub returns-clause-bound : goal.returns-clause-bound
returns-clause-bound c =
    let f = c.args.self.now in
    let fits : SFits w32 f.year = search rules in
    let bounds = first_day_bounds f.year fits in
    let in_year = day_in_year f.year f.month f.month_day c.requires.in_range.month.0 c.requires.in_range.month.1
    c.requires.in_range.month_day.0 c.requires.in_month in
    let value = rw (to_z-of_z w32 f.year fits) at c.days_since_unix_epoch.ensures.value in
    (omega (arith, ints), omega (arith, ints))
