-- The indexes before the next call's first are answered, and the codes from it on are those of no error.
use Rattle.std.proofs.Common.{◌-◌}
use Rattle.tz_c.proofs.Common.{zone_of_data, ◌≤◌, length, IsInstantAt}
use Rattle.tz_c.proofs.AnswersInTurn.{AreCodedUpTo}
use Rattle.tz_c.proofs.columns.tz_column_instants.Given as goal

abbrev pub invariant-loop-none : goal.invariant-loop-none
invariant-loop-none l = (l.first ≤ length l.fields)
    × AreCodedUpTo (IsInstantAt (zone_of_data l.zone) l.disambiguation l.fields) l.initial.unix_times
    l.unix_times l.codes l.first

abbrev pub decreases-loop-none : goal.decreases-loop-none
decreases-loop-none l = length l.fields - l.first
