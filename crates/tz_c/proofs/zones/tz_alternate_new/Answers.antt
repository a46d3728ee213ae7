-- The fault is that of the days that the numbers mean.
use Rattle.tz_c.proofs.Common.{inr, to_z-of_z, w32}
use Rattle.tz_c.proofs.zones.tz_alternate_new.Goals as goal

pub returns-in-Err-clause-answer : goal.returns-in-Err-clause-answer
returns-in-Err-clause-answer c =
    let start_time = to_z-of_z w32 c.args.dst_start_time c.ranges.dst_start_time in
    let end_time = to_z-of_z w32 c.args.dst_end_time c.ranges.dst_end_time in
    let fault = rw (start_time, end_time, c.day.ensures, c.day-2.ensures) at c.in-Err.ensures.err in
    inr (c.in-Err.error, c.rule_code.ensures, fault)
