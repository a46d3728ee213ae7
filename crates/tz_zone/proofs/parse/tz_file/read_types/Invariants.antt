-- The types of the records so far.
use Rattle.tz_zone.proofs.Common.{◌≡◌, ℕ, ◌<◌, block_view, IsTypeRecord, types_of}
use Rattle.tz_zone.proofs.parse.tz_file.read_types.Given as goal

abbrev pub invariant-loop-i : goal.invariant-loop-i
invariant-loop-i g l = record {
  made : l.local_time_types.items ≡ types_of (block_view l.unit.block) l.i;
  are : (i : ℕ) → i < l.i → IsTypeRecord (block_view l.unit.block) i;
}
