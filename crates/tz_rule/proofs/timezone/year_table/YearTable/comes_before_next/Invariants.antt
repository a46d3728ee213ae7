-- In no pair kind so far does the instant come before the other one of the next year.
use Rattle.tz_rule.proofs.Common.{ℕ, ◌<◌, ◌≤ℤ◌, ◌-◌, entry, first_kind, next_entry}
use Rattle.tz_rule.proofs.timezone.year_table.YearTable.comes_before_next.Given as goal

abbrev pub invariant-loop-pair : goal.invariant-loop-pair
invariant-loop-pair l = (k : ℕ) → k < l.pair → next_entry l.other.0 k ≤ℤ entry l.self.0 (first_kind k)

abbrev pub decreases-loop-pair : goal.decreases-loop-pair
decreases-loop-pair l = 21 - l.pair
