-- What the zone's clock shows at the seconds and nanoseconds of the total.
use Rattle.tz.proofs.Common.{inr, to_z-of_z, rules, w64, IfErr-weaker, IfOk-weaker, w128}
use Rattle.tz.proofs.datetime.date_time.DateTime.from_total_nanoseconds.Goals as goal

pub returns : goal.returns
returns c =
    let t = c.in-Some in
    let parts = rw (to_z-of_z w128 c.args.total_nanoseconds c.ranges.total_nanoseconds) at t.ensures.found in
    let same = to_z-of_z w64 t.unix_time (search rules) in
    record {
      ok = IfOk-weaker c.from_timespec.result _ _ (λ d h. (t.unix_time, t.nanoseconds, parts, rw same at h))
          c.from_timespec.ensures.ok;
      reads = c.from_timespec.ensures.reads;
      err = IfErr-weaker c.from_timespec.result _ _ (λ e h. inr (t.unix_time, t.nanoseconds, parts, rw same at h))
          c.from_timespec.ensures.err;
    }
