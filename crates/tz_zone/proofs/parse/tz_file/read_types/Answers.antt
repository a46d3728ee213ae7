-- One more record is read and its type is pushed; in the end all records are.
use Rattle.tz_zone.proofs.Common.{sym, block_view, IsTypeRecord, below_more}
use Rattle.tz_zone.proofs.TzTables.{types_more}
use Rattle.tz_zone.proofs.parse.tz_file.read_types.Goals as goal

pub loop-i-preserved : goal.loop-i-preserved
loop-i-preserved g c =
    let block = block_view c.args.unit.now.block in
    record {
      made = rw (c.in_ok-push.ensures.items, c.loop-i.invariant.made, c.in_ok-read_type.ensures.value)
          (sym (types_more block c.loop-i.i));
      are = below_more (λ i. IsTypeRecord block i) c.loop-i.i c.loop-i.invariant.are c.in_ok-read_type.ensures.ok;
    }
