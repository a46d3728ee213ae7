-- The seconds of a total in range fit 64 bits.
use Rattle.tz.proofs.Common.{arith, ints, to_z-of_z, w64, SFits, IsInstant-from_bounds, w128}
use Rattle.tz.proofs.TimespecTotals.{timespec_exists}
use Rattle.tz.proofs.datetime.utc_date_time.utc_timespec.Goals as goal

pub returns-in_err-seconds-clause-in_range : goal.returns-in_err-seconds-clause-in_range
returns-in_err-seconds-clause-in_range c =
    rw c.from_residual.ensures (
      (λ some. absurd cc),
      (λ range.
          let is = timespec_exists c.args.total in
          let fits : SFits w64 is.0 = IsInstant-from_bounds is.0 (omega (arith, ints, range.0, is.2.whole, is.2.part))
          (omega (arith, ints, range.1, is.2.whole, is.2.part)) in
          absurd ((rw (to_z-of_z w128 c.args.total c.ranges.total) at c.in_err-seconds.ensures.none) is.0 is.1 is.2
          fits)),
    )
