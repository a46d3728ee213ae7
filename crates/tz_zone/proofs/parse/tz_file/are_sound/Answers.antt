-- Indexes below the number of types name types.
use Rattle.tz_zone.proofs.Common.{width_of, block_view}
use Rattle.tz_zone.proofs.TzRecords.{named_types}
use Rattle.tz_zone.proofs.parse.tz_file.are_sound.Goals as goal

pub returns-then-are_below : goal.returns-then-are_below
returns-then-are_below c = λ yes i. (
  rw c.requires.read (named_types (width_of c.args.unit.now.size) (block_view c.args.unit.now.block)
      c.args.unit.now.counts.transition c.args.types c.requires.sized.indexes
      (c.are_below.ensures c.if-are_below.true) i),
  c.all_rise.ensures yes i,
)
