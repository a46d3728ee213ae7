-- The day of the year counts the days since January 1st.
use Rattle.std.proofs.Common.{arith, rules}
use Rattle.std.proofs.lemmas.Int.{ints, to_z-of_z}
use mir.Syntax.{w32}
use Rattle.tz_base.proofs.DaysOfYears.{day_number-is}
use Rattle.tz_base.proofs.fields.Fields.year_day.Goals as goal

pub returns-clause-value : goal.returns-clause-value
returns-clause-value c =
    let f = c.args.self.now in
    let before = rw (rw (to_z-of_z w32 f.year
    (search rules)) at c.is_leap_year.ensures) at c.days_before_month.ensures.value in
    rw (day_number-is f.year f.month f.month_day) (omega (arith, ints))
