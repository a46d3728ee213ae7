-- The year of the civil fields is the only year of the instant.
use Rattle.tz_rule.proofs.Common.{arith, ints, to_z-of_z, rules, w64, w32}
use Rattle.tz_rule.proofs.UtcYears.{IsUtcYear-from_civil, utc_year_unique, IsReading-from_rule_year}
use Rattle.tz_rule.proofs.timezone.year_table.rule_year.Goals as goal
use Rattle.tz_rule.proofs.timezone.year_table.rule_year.Goals.{then-year-lt-FIRST_YEAR-via-then-year-lt-FIRST_YEAR, then-year-lt-FIRST_YEAR-via-else-year-lt-FIRST_YEAR+then-year-gt-LAST_YEAR}

pub returns-then-not-is_reading-clause-none : goal.returns-then-not-is_reading-clause-none
returns-then-not-is_reading-clause-none c =
    λ (y, is, h). c.if-not-is_reading.ensures (rw (to_z-of_z w64 c.args.unix_time c.ranges.unix_time)
    (IsReading-from_rule_year c.args.unix_time y is h))

pub returns-then-year-lt-FIRST_YEAR-clause-none : goal.returns-then-year-lt-FIRST_YEAR-clause-none
returns-then-year-lt-FIRST_YEAR-clause-none c =
    let u = c.args.unix_time in
    let civil = rw (to_z-of_z w64 u c.ranges.unix_time) at c.from_reading-year.ensures in
    λ (y, is, h). let same = utc_year_unique u y c.from_reading-year.result.year is
    (IsUtcYear-from_civil u 0 c.from_reading-year.result civil) in
    elim c.then-year-lt-FIRST_YEAR.branch [
      | then-year-lt-FIRST_YEAR-via-then-year-lt-FIRST_YEAR w ↦
          absurd (omega (arith, ints, h.0, w.if-year-lt-FIRST_YEAR.true))
      | then-year-lt-FIRST_YEAR-via-else-year-lt-FIRST_YEAR+then-year-gt-LAST_YEAR w ↦
          absurd (omega (arith, ints, h.1, w.if-year-gt-LAST_YEAR.true))
    ]

pub returns-clause-some : goal.returns-clause-some
returns-clause-some c =
    let u = c.args.unix_time in
    let civil = rw (to_z-of_z w64 u c.ranges.unix_time) at c.from_reading-year.ensures in
    rw (to_z-of_z w32 c.from_reading-year.result.year (search rules))
    (IsUtcYear-from_civil u 0 c.from_reading-year.result civil, (omega (arith, ints), omega (arith, ints)))
