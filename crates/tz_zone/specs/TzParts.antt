-- What the reader of TZif files keeps of them.
use Rattle.std.specs.Prelude.{◌≡◌, ◌+◌, ◌*◌, length}
use Rattle.std.specs.Int.{Width, w32, w64, byte_len}
use Rattle.tz_zone.specs.TzFile.{Counts, Block, Part, transitions_of, types_of, leaps_of}
use Rattle.tz_zone.specs.declared.parse.tz_file.Tables.{Tables}
use Rattle.tz_zone.specs.declared.parse.tz_file.Block.{Block as BlockSlices}
use Rattle.tz_zone.specs.declared.parse.tz_file.Unit.{Unit as UnitSlices}
use Rattle.tz_zone.specs.declared.parse.tz_file.Counts.{Counts as CountFields}
use Rattle.tz_zone.specs.declared.parse.tz_file.TimeSize.{TimeSize}
use Rattle.tz_zone.specs.declared.parse.tz_file.TimeSize.TheVariants.{Four, Eight}

-- the width of a time
abbrev pub width_of : TimeSize → Width
width_of Four = w32
width_of Eight = w64

-- the counts that were read
abbrev pub counts_view : CountFields → Counts
counts_view n = record {
  ut_local = n.ut_local;
  std_wall = n.std_wall;
  leap = n.leap;
  transition = n.transition;
  local_type = n.local_type;
  char = n.char;
}

-- the bytes after the slices
abbrev pub block_view : BlockSlices → Block
block_view b = record {
  times = b.times.now;
  indexes = b.indexes.now;
  types = b.types.now;
  names = b.names.now;
  leaps = b.leaps.now;
  std_walls = b.std_walls.now;
  ut_locals = b.ut_locals.now;
}

abbrev pub unit_view : UnitSlices → Part
unit_view p = record {
  width = width_of p.size;
  version = p.version;
  counts = counts_view p.counts;
  block = block_view p.block;
  after = p.after.now;
}

-- each table of a block with these counts has its records whole
pub record HasSizes (w : Width) (n : Counts) (block : Block) : Type 0 where
  pub times : length block.times ≡ n.transition * byte_len w
  pub indexes : length block.indexes ≡ n.transition
  pub types : length block.types ≡ n.local_type * 6
  pub leaps : length block.leaps ≡ n.leap * (byte_len w + 4)

abbrev pub IsSized : UnitSlices → Type 0
IsSized p = HasSizes (width_of p.size) (counts_view p.counts) (block_view p.block)

-- the tables of the part
pub record HasTables {A : Type 0} (p : Part) (t : Tables A) : Type 0 where
  pub transitions : t.transitions.items ≡ transitions_of p.width p.block p.counts.transition
  pub types : t.local_time_types.items ≡ types_of p.block p.counts.local_type
  pub leap_seconds : t.leap_seconds.items ≡ leaps_of p.width p.block p.counts.leap
