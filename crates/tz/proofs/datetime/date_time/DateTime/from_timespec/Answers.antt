-- The zone that is looked up is that of the call.
use Rattle.tz.proofs.Common.{subst, to_z-of_z, w64, Zone, ShowsByClock, IsClockFault, IfErr, IfOk}
use Rattle.tz.proofs.datetime.date_time.DateTime.from_timespec.Goals as goal

pub returns : goal.returns
returns c =
    let result = c.shown_by_clock.result in
    let u = c.args.unix_time in
    let n = c.args.nanoseconds in
    let shown = rw (to_z-of_z w64 u c.ranges.unix_time) at c.shown_by_clock.ensures in
    record {
      ok = subst (λ (z : Zone). IfOk result (ShowsByClock z u n)) c.of.ensures shown.ok;
      reads = shown.reads;
      err = subst (λ (z : Zone). IfErr result (IsClockFault z u n)) c.of.ensures shown.err;
    }
