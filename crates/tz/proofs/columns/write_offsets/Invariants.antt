-- The segment is one of the zone's clock, and the indexes before the block are answered.
use Rattle.tz.proofs.Common.{zone_of_data, length, ◌≤◌, ◌-◌}
use Rattle.tz_zone.specs.Changes.{IsTrueSegment, segment_of}
use Rattle.tz.specs.Columns.{AreAnswered, IsOffsetAt}
use Rattle.tz.proofs.columns.write_offsets.Given as goal

abbrev pub invariant-loop-index : goal.invariant-loop-index
invariant-loop-index l =
    IsTrueSegment (zone_of_data l.zone) (segment_of l.segment) × (l.first ≤ l.index) × (l.index ≤ length l.unix_times)
    × AreAnswered (IsOffsetAt (zone_of_data l.zone) l.unix_times) l.first l.index l.initial.offsets l.offsets

abbrev pub decreases-loop-index : goal.decreases-loop-index
decreases-loop-index l = length l.unix_times - l.index
