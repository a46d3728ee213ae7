-- The total that is carried is the one earlier by the duration.
use Rattle.tz.proofs.Common.{arith, ints, as_nanos}
use Rattle.tz.proofs.TimespecTotals.{timespec_earlier, range_earlier, below_a_second}
use Rattle.tz.proofs.datetime.utc_date_time.time_before.Goals as goal

pub returns : goal.returns
returns c =
    let n = as_nanos c.args.duration in
    let over = c.subsec_nanos.ensures in
    let small = below_a_second n c.subsec_nanos.result over in
    record {
      some = timespec_earlier c.carried.result _ c.args.seconds c.args.nanoseconds n c.as_secs-taken.result
          c.subsec_nanos.result c.carried.ensures.some c.as_secs-taken.ensures over
          (omega (arith, ints, c.requires.instant.0, c.requires.instant.1));
      in_range = range_earlier c.carried.result _ c.args.seconds c.args.nanoseconds n c.as_secs-taken.result
          c.subsec_nanos.result c.carried.ensures.in_range c.as_secs-taken.ensures over
          (omega (arith, ints, c.requires.instant.0, c.requires.instant.1));
    }
