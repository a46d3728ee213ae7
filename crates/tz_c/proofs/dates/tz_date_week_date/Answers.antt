-- Nothing is written: the year of the date's week does not fit 32 bits.
use Rattle.tz_c.proofs.Common.{refl, inr}
use Rattle.tz_base.specs.declared.error.TzError.TheVariants as faults
use Rattle.tz_c.proofs.dates.tz_date_week_date.Goals as goal

pub returns-in-None-clause-answer : goal.returns-in-None-clause-answer
returns-in-None-clause-answer c =
    let none = rw (c.in-Ok.ensures.value) at c.in-None.ensures.none in
    inr (faults.OutOfRange, refl, inr (refl, c.in-Ok.ensures.ok, none))
