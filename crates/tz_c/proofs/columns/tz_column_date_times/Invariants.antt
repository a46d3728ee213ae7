-- The indexes before the next call's first are answered, and the codes from it on are those of no error.
use Rattle.std.proofs.Common.{◌-◌}
use Rattle.tz_c.proofs.Common.{zone_of_data, IsDateTimeAt, ◌≤◌, length}
use Rattle.tz_c.proofs.AnswersInTurn.{AreCodedUpTo}
use Rattle.tz_c.proofs.columns.tz_column_date_times.Given as goal

abbrev pub invariant-loop-unshown : goal.invariant-loop-unshown
invariant-loop-unshown l = (l.first ≤ length l.unix_times)
    × AreCodedUpTo (IsDateTimeAt (zone_of_data l.zone) l.unix_times l.nanoseconds) l.initial.date_times l.date_times
    l.codes l.first

abbrev pub decreases-loop-unshown : goal.decreases-loop-unshown
decreases-loop-unshown l = length l.unix_times - l.first
