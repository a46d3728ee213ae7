-- The entries so far are those of their kinds.
use Rattle.tz_rule.proofs.Common.{◌≡◌, pos, ℕ, ◌+ℤ◌, ◌<◌, ◌+◌, ◌-◌, entry, length, ◌*◌}
use Rattle.tz_rule.specs.YearDays.{days_later}
use Rattle.tz_rule.proofs.timezone.year_table.BoundedTable.of_day.Given as goal

abbrev pub invariant-loop-week_day : goal.invariant-loop-week_day
invariant-loop-week_day l = record {
  size : length l.entries ≡ 14;
  normal_made : (k : ℕ) → k < l.week_day → entry l.entries k
      ≡ l.normal +ℤ pos (86400 * days_later (l.normal_place + k));
  leap_made : (k : ℕ) → k < l.week_day → entry l.entries (7 + k)
      ≡ l.leap +ℤ pos (86400 * days_later (l.leap_place + k));
}

abbrev pub decreases-loop-week_day : goal.decreases-loop-week_day
decreases-loop-week_day l = 7 - l.week_day
