-- The indexes before the next call's first are answered, and the codes from it on are those of no error.
use Rattle.std.proofs.Common.{◌-◌}
use Rattle.tz_c.proofs.Common.{zone_of_data, IsOffsetAt, ◌≤◌, length}
use Rattle.tz_c.proofs.AnswersInTurn.{AreCodedUpTo}
use Rattle.tz_c.proofs.columns.tz_column_offsets.Given as goal

abbrev pub invariant-loop-unanswered : goal.invariant-loop-unanswered
invariant-loop-unanswered l = (l.first ≤ length l.unix_times)
    × AreCodedUpTo (IsOffsetAt (zone_of_data l.zone) l.unix_times) l.initial.offsets l.offsets l.codes l.first

abbrev pub decreases-loop-unanswered : goal.decreases-loop-unanswered
decreases-loop-unanswered l = length l.unix_times - l.first
