-- The segment is one of the zone's clock, and the indexes before the index are answered.
use Rattle.tz.proofs.Common.{zone_of_data}
use Rattle.tz_zone.specs.Changes.{IsTrueSegment, segment_of}
use Rattle.tz.specs.Columns.{AreAnswered, IsOffsetAt}
use Rattle.tz.proofs.columns.write_offsets_of_block.Given as goal

abbrev pub invariant-loop-i : goal.invariant-loop-i
invariant-loop-i l =
    IsTrueSegment (zone_of_data l.zone) (segment_of l.last)
    × AreAnswered (IsOffsetAt (zone_of_data l.zone) l.unix_times) l.index l.i l.initial.offsets l.offsets
