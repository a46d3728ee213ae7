-- The bytes so far are those of the name, and may stand in one.
use Rattle.tz_rule.proofs.Common.{◌≡◌, ℕ, ◌<◌, ◌-◌, ◌≤◌, get_or, length, IsDesignationByte}
use Rattle.tz_rule.proofs.timezone.local_time_type.Designation.new.Given as goal

abbrev pub invariant-loop-index : goal.invariant-loop-index
invariant-loop-index l = record {
  size : length l.bytes ≡ 7;
  below : l.index ≤ length l.name;
  copied : (k : ℕ) → k < l.index → get_or l.bytes k 0 ≡ get_or l.name k 0;
  zeros : (k : ℕ) → l.index ≤ k → get_or l.bytes k 0 ≡ 0;
  are : (k : ℕ) → k < l.index → IsDesignationByte (get_or l.name k 0);
}

abbrev pub decreases-loop-index : goal.decreases-loop-index
decreases-loop-index l = length l.name - l.index
