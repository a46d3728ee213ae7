-- Each type has a position below the number of types.
use Rattle.tz_zone.proofs.Common.{arith, slice_get_within}
use Rattle.tz_zone.proofs.laws.listed_types_are_sound.Goals as goal

pub returns : goal.returns
returns c = λ i t at.
    c.loop-local_time_type.invariant i t (omega
    (arith, slice_get_within c.args.local_time_types.now i t at, c.loop-local_time_type-test.false)) at
