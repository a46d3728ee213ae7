-- A sum that does not fit 64 bits is the number of no date.
use Rattle.std.proofs.Common.{arith}
use Rattle.std.proofs.lemmas.Int.{ints}
use Rattle.tz_civil.proofs.CivilDates.{date_bounds}
use Rattle.tz_civil.proofs.date.Date.checked_add_days.Goals as goal

pub returns-in_default-clause-none : goal.returns-in_default-clause-none
returns-in_default-clause-none c = λ e is later.
    let bounds = date_bounds e is in
    let value = c.day_number.ensures.value in
    let bound = c.day_number.ensures.bound in
    c.in_default.ensures (record { sfits = omega (arith, ints, bounds, value, bound, later, c.ranges.days) })
