-- The fault is that of the zone and the date that were passed.
use Rattle.std.proofs.Common.{rules}
use Rattle.tz_c.proofs.Common.{inr, subst, to_z-of_z, w64, Zone}
use Rattle.tz_civil.specs.Dates.{number_of}
use Rattle.tz_civil.specs.DayStarts.{IsStartFault}
use Rattle.tz_c.specs.Dates.{date_given}
use Rattle.tz_c.proofs.dates.tz_zone_start_of_day.Goals as goal

pub returns-in-Err-first_of_day-clause-answer : goal.returns-in-Err-first_of_day-clause-answer
returns-in-Err-first_of_day-clause-answer c =
    let error = c.in-Err-first_of_day.error in
    let day = number_of (date_given c.args.date.now) in
    let fault = subst (λ (z : Zone). IsStartFault z day error) c.as_zone_data.ensures
    (rw (
      to_z-of_z w64 c.day_number.result (search rules),
      c.day_number.ensures.value,
      c.in-Ok.ensures.value,
    ) at c.in-Err-first_of_day.ensures.err) in
    inr (inr (error, c.code_of-in-Err-first_of_day.ensures, inr (c.in-Ok.ensures.ok, fault)))
