-- The closed form is the number of January 1st.
use Rattle.std.proofs.Common.{arith}
use Rattle.std.proofs.lemmas.Int.{ints}
use Rattle.tz_base.proofs.YearStarts.{first_day-moved, days_of_years_bounds}
use Rattle.tz_base.proofs.calendar.first_day_of_year.Goals as goal

pub returns-clause-value : goal.returns-clause-value
returns-clause-value c =
    let moved = first_day-moved c.args.year c.moved_year.result 5368710
    (omega (arith, ints, c.moved_year.ensures.value)) in
    omega (arith, ints, c.days_before_moved_year.ensures.value)

pub returns-clause-bound : goal.returns-clause-bound
returns-clause-bound c =
    let bounds = days_of_years_bounds c.args.year c.moved_year.result c.ranges.year
    (omega (arith, ints, c.moved_year.ensures.value)) in
    omega (arith, ints, c.days_before_moved_year.ensures.value)
