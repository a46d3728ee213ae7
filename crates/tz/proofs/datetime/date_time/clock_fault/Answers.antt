-- The lookup's fault is that of the clock, and a type that is found shows no reading.
use Rattle.tz.proofs.Common.{refl, inr, inl, to_z-of_z, rules, w64, ◌<◌}
use Rattle.tz.proofs.datetime.date_time.clock_fault.Goals as goal

pub returns-in-Ok : goal.returns-in-Ok
returns-in-Ok c =
    let few : c.args.nanoseconds < 1000000000 = search rules in
    let found = rw (to_z-of_z w64 c.args.unix_time c.ranges.unix_time) at c.in-Ok.ensures.ok in
    inr (inr (refl, few, (c.in-Ok.field-0.now, found, c.requires few c.in-Ok.field-0.now found)))

pub returns-in-Err : goal.returns-in-Err
returns-in-Err c =
    inr (inl (search rules, rw (to_z-of_z w64 c.args.unix_time c.ranges.unix_time) at c.in-Err.ensures.err))
