-- Zones, segments and changes as plain data.
use Rattle.std.specs.Prelude.{◌≡◌, false, pos, Some, None, if◌then◌else◌}
use Rattle.tz_rule.specs.LocalTimeType.{plain_type}
use Rattle.tz_zone.specs.Changes.{Segment, Change}
use Rattle.tz_zone.specs.Table.{Zone, zone_with}
use Rattle.tz_c.specs.Rules.{rule_of_lists}
use Rattle.tz_c.specs.declared.zones.PartsData.{PartsData}
use Rattle.tz_c.specs.declared.zones.SegmentData.{SegmentData}
use Rattle.tz_c.specs.declared.zones.ChangeData.{ChangeData}

-- the zone that parts would make
abbrev pub zone_of_parts : PartsData → Zone
zone_of_parts p = zone_with p.transitions.now p.local_time_types.now p.leap_seconds.now
    (rule_of_lists p.fixed.now p.alternate.now)

-- the segment that is written
abbrev pub segment_written : SegmentData → Segment
segment_written s = record {
  from = s.from;
  last = s.last;
  local_time_type =
      if s.has_type then Some s.local_time_type else None;
}

-- a segment without a type has UTC's without a name, whose bytes are zero
abbrev pub HasZerosWithoutType : SegmentData → Type 0
HasZerosWithoutType s = s.has_type ≡ false → s.local_time_type ≡ plain_type (pos 0)

-- the change that is written
abbrev pub change_written : ChangeData → Change
change_written c = record { unix_time = c.unix_time; before = c.before; after = c.after }
