-- No change is between the beginning of the segment to which the walk has come and the instant, and the rule has its
-- type there.
use Rattle.tz_rule.proofs.Common.{◌≤ℤ◌, ◌-ℤ◌, w64, negsuc, Alternate, HasNoTypeChange, SFits, unsigned_abs}
use Rattle.tz_rule.proofs.RuleWalks.{HasTypeOrNone}
use Rattle.tz_rule.proofs.timezone.alternate_time.AlternateData.outer_change_up_to.Given as goal

abbrev pub invariant-loop-segment : goal.invariant-loop-segment
invariant-loop-segment l = record {
  order : l.segment.from ≤ℤ l.unix_time;
  fits : SFits w64 l.segment.from;
  none : HasNoTypeChange (Alternate l.self) l.segment.from l.unix_time;
  type : HasTypeOrNone (Alternate l.self) l.segment.from l.segment.local_time_type;
}

abbrev pub decreases-loop-segment : goal.decreases-loop-segment
decreases-loop-segment l = unsigned_abs (l.segment.from -ℤ negsuc 9223372036854775807)
