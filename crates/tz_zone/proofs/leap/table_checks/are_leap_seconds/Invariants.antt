-- The records so far are followed by such as may follow.
use Rattle.tz_zone.proofs.Common.{ℕ, ◌<◌, FollowsAt}
use Rattle.tz_zone.proofs.leap.table_checks.are_leap_seconds.Given as goal

abbrev pub invariant-loop-i : goal.invariant-loop-i
invariant-loop-i l = (index : ℕ) → index < l.i → FollowsAt l.leap_seconds index
