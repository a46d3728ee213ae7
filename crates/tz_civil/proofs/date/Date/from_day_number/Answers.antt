-- Every date is between the first day and the last one.
use Rattle.std.proofs.Common.{arith}
use Rattle.std.proofs.lemmas.Int.{ints}
use Rattle.tz_civil.proofs.CivilDates.{date_bounds}
use Rattle.tz_civil.proofs.date.Date.from_day_number.Goals as goal
use Rattle.tz_civil.proofs.date.Date.from_day_number.Goals.{then-day-lt-FIRST_DAY-via-then-day-lt-FIRST_DAY, then-day-lt-FIRST_DAY-via-else-day-lt-FIRST_DAY+then-day-gt-LAST_DAY}

pub returns-then-day-lt-FIRST_DAY-clause-none : goal.returns-then-day-lt-FIRST_DAY-clause-none
returns-then-day-lt-FIRST_DAY-clause-none c = λ d is same.
    let bounds = date_bounds d is in
    elim c.then-day-lt-FIRST_DAY.branch [
      | then-day-lt-FIRST_DAY-via-then-day-lt-FIRST_DAY w ↦ omega (arith, ints, bounds, same, w.if-day-lt-FIRST_DAY)
      | then-day-lt-FIRST_DAY-via-else-day-lt-FIRST_DAY+then-day-gt-LAST_DAY w ↦
          omega (arith, ints, bounds, same, w.if-day-gt-LAST_DAY)
    ]
