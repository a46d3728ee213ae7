-- In none of the years so far does the instant come before the other one at the distance.
use Rattle.tz_rule.proofs.Common.{pos, ℕ, ◌+ℤ◌, ◌<◌, ◌≤ℤ◌, ◌+◌, ◌-◌, instant_in}
use Rattle.tz_rule.proofs.timezone.year_table.YearTable.year_before.Given as goal

abbrev pub invariant-loop-index : goal.invariant-loop-index
invariant-loop-index l = (m : ℕ) → m < l.index
    → instant_in l.other.0 (pos (1972 + m) +ℤ l.distance) ≤ℤ instant_in l.self.0 (pos (1972 + m))

abbrev pub decreases-loop-index : goal.decreases-loop-index
decreases-loop-index l = 29 - l.index
