-- No change is between the instant and the end of the segment to which the walk has come, and the rule has its type
-- there.
use Rattle.tz_rule.proofs.Common.{pos, ◌≤ℤ◌, ◌-ℤ◌, w64, Alternate, HasNoTypeChange, SFits, unsigned_abs}
use Rattle.tz_rule.proofs.RuleWalks.{HasTypeOrNone}
use Rattle.tz_rule.proofs.timezone.alternate_time.AlternateData.outer_change_after.Given as goal

abbrev pub invariant-loop-segment : goal.invariant-loop-segment
invariant-loop-segment l = record {
  order : l.unix_time ≤ℤ l.segment.last;
  fits : SFits w64 l.segment.last;
  none : HasNoTypeChange (Alternate l.self) l.unix_time l.segment.last;
  type : HasTypeOrNone (Alternate l.self) l.segment.last l.segment.local_time_type;
}

abbrev pub decreases-loop-segment : goal.decreases-loop-segment
decreases-loop-segment l = unsigned_abs (pos 9223372036854775807 -ℤ l.segment.last)
