-- In the years of no kind so far does the instant come before the other one.
use Rattle.tz_rule.proofs.Common.{ℕ, ◌<◌, ◌≤ℤ◌, ◌-◌, entry}
use Rattle.tz_rule.proofs.timezone.year_table.YearTable.comes_first.Given as goal

abbrev pub invariant-loop-kind : goal.invariant-loop-kind
invariant-loop-kind l = (k : ℕ) → k < l.kind → entry l.other.0 k ≤ℤ entry l.self.0 k

abbrev pub decreases-loop-kind : goal.decreases-loop-kind
decreases-loop-kind l = 14 - l.kind
