-- A date is in the years of 32 bits.
use Rattle.std.proofs.Common.{arith, rules}
use Rattle.std.proofs.lemmas.Int.{ints, to_z-of_z}
use mir.Syntax.{w32}
use Rattle.tz_civil.specs.Dates.{date_of}
use Rattle.tz_civil.proofs.CivilDates.{date_bounds}
use Rattle.tz_civil.proofs.date.Date.day_number.Goals as goal

pub returns-clause-bound : goal.returns-clause-bound
returns-clause-bound c =
    let d = c.self.inside in
    let bounds = date_bounds (date_of d.year d.month d.month_day) c.self.invariant in
    let value = rw (to_z-of_z w32 d.year (search rules)) at c.days_since_unix_epoch.ensures.value in (
      omega (arith, ints, bounds, value, c.days_since_unix_epoch.ensures.bound),
      omega (arith, ints, bounds, value, c.days_since_unix_epoch.ensures.bound),
    )
