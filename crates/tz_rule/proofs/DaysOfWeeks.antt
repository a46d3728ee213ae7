-- The days of a week day of a month, by the week day of the month's first day, are seven in a row.
use Rattle.tz_rule.proofs.Common.{arith, ℕ, ◌<◌, ◌+◌, ◌-◌, ◌≤◌, nat_tests, ◌*◌, nth_week_day, min}

-- the least of the days
abbrev pub least_day : ℕ → ℕ → ℕ
least_day days week = min (7 * (week - 1)) (days - 7)

-- among seven days from the least one on
abbrev IsWithin : ℕ → ℕ → Type 0
IsWithin year_day least = (least ≤ year_day) × (year_day ≤ least + 6)

pub day_within : (first days week : ℕ) → first < 7 → 28 ≤ days → days ≤ 31 → 1 ≤ week → week ≤ 5
    → IsWithin (nth_week_day first days week) (least_day days week)
day_within first days week f low high w w' = (grind (arith, nat_tests), grind (arith, nat_tests))
