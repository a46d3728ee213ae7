-- The segment is one of the zone's clock, the day is one, and the indexes before the index are answered.
use Rattle.tz.proofs.Common.{zone_of_data}
use Rattle.tz_zone.specs.Changes.{IsTrueSegment, segment_of}
use Rattle.tz.specs.Columns.{AreAnswered}
use Rattle.tz.specs.DateTimeColumns.{IsDateTimeAt, IsDay}
use Rattle.tz.proofs.columns.date_times.write_date_times.Given as goal

abbrev pub invariant-loop-i : goal.invariant-loop-i
invariant-loop-i g l =
    IsTrueSegment (zone_of_data l.zone) (segment_of l.segment) × IsDay l.day
    × AreAnswered (IsDateTimeAt g.S.DateTimeSlot.holding (zone_of_data l.zone) l.unix_times l.nanoseconds) l.first l.i
    l.initial.date_times l.date_times
