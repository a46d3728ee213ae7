-- The fault is that of the fields, or of the instant that they show.
use Rattle.tz_c.proofs.Common.{inr, rules, SFits, to_z-of_z, w32}
use Rattle.tz_c.proofs.date_times.tz_date_time_new.Goals as goal

pub returns-in-Err-clause-answer : goal.returns-in-Err-clause-answer
returns-in-Err-clause-answer c =
    let year = c.args.fields.now.year in
    let fits : SFits w32 year = search rules in
    inr (c.in-Err.error, c.code_of.ensures, rw (to_z-of_z w32 year fits) at c.in-Err.ensures.err)
