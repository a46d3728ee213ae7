-- What is refused has a side that is outside the years of an `i32`.
use Rattle.tz.proofs.Common.{refl, inr, rules, to_z-of_z, w64}
use Rattle.std.proofs.Common.{w32}
use Rattle.tz.proofs.datetime.entry_ends.jump_inside.Goals as goal

pub returns-in_default-local_reading-clause-err : goal.returns-in_default-local_reading-clause-err
returns-in_default-local_reading-clause-err c = (
  refl,
  inr (rw (
    to_z-of_z w64 c.args.unix_time c.ranges.unix_time,
    to_z-of_z w32 c.ut_offset-2.result (search rules),
    c.ut_offset-2.ensures.value,
  ) at c.in_default-local_reading.ensures.none),
)
