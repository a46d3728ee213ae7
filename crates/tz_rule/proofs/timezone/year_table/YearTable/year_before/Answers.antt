-- The years that are compared stand for all years.
use Rattle.tz_rule.proofs.Common.{arith, to_z-of_z, w32}
use Rattle.tz_rule.proofs.YearsApart.{not_before}
use Rattle.tz_rule.proofs.timezone.year_table.YearTable.year_before.Goals as goal

pub returns-clause-none : goal.returns-clause-none
returns-clause-none c =
    not_before c.args.self.now.0 c.args.other.now.0 c.args.distance c.requires
    (λ m below. rw (to_z-of_z w32 c.args.distance c.ranges.distance) at (c.loop-index.invariant m
    (omega (arith, below, c.loop-index-test.false))))
