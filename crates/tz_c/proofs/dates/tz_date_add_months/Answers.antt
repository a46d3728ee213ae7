-- Nothing is written: the year so many months later does not fit 32 bits.
use Rattle.tz_c.proofs.Common.{refl, inr, to_z-of_z, w32}
use Rattle.tz_base.specs.declared.error.TzError.TheVariants as faults
use Rattle.tz_c.proofs.dates.tz_date_add_months.Goals as goal

pub returns-in-None-clause-answer : goal.returns-in-None-clause-answer
returns-in-None-clause-answer c =
    let none =
    rw (to_z-of_z w32 c.args.months c.ranges.months, c.in-Ok.ensures.value) at
    c.in-None.ensures.none in
    inr (faults.OutOfRange, refl, inr (refl, c.in-Ok.ensures.ok, none))
