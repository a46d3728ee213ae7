-- The clock has not shown the day before the instant to which the walk has come.
use Rattle.std.proofs.Common.{pos, ◌+ℤ◌, ◌-ℤ◌}
use Rattle.tz.proofs.EntryWalks.{room}
use Rattle.tz_zone.specs.ZoneOfData.{zone_of_data}
use Rattle.tz_civil.proofs.DayWalks.{IsWalked}
use Rattle.tz_civil.proofs.day_starts.first_by_segments.Given as goal

abbrev pub invariant-loop-at : goal.invariant-loop-at
invariant-loop-at l = IsWalked (zone_of_data l.zone) l.day l.low l.high l.at l.has_type

abbrev pub decreases-loop-at : goal.decreases-loop-at
decreases-loop-at l = room (l.high +ℤ pos 1 -ℤ l.at)
