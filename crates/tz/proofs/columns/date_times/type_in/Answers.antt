-- The instant is the one that was passed.
use Rattle.tz.proofs.Common.{to_z-of_z, w64}
use Rattle.tz.proofs.columns.date_times.type_in.Goals as goal

pub returns-in-None : goal.returns-in-None
returns-in-None c =
    record {
      ok = rw (to_z-of_z w64 c.args.unix_time c.ranges.unix_time) at c.find_local_time_type.ensures.ok;
      err = rw (to_z-of_z w64 c.args.unix_time c.ranges.unix_time) at c.find_local_time_type.ensures.err;
    }
