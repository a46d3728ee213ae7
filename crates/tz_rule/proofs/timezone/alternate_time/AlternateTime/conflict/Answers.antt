-- The tables are those of the rule's starts and ends, and at distances of two years or more their order never changes.
use Rattle.tz_rule.proofs.Common.{to_z-of_z, w32}
use Rattle.tz_rule.proofs.RuleConflicts.{rule_conflict, no_rule_conflict}
use Rattle.tz_rule.proofs.timezone.alternate_time.AlternateTime.conflict.Goals as goal

pub returns-clause-some : goal.returns-clause-some
returns-clause-some c =
    let start_time = to_z-of_z w32 c.args.dst_start_time c.ranges.dst_start_time in
    let end_time = to_z-of_z w32 c.args.dst_end_time c.ranges.dst_end_time in
    let starts = rw (start_time, end_time, c.of.ensures, c.of-2.ensures) at c.starts-starts.ensures in
    let ends = rw (start_time, end_time, c.of.ensures, c.of-2.ensures) at c.ends-ends.ensures in
    rule_conflict _ (record { start_is = starts.day; end_is = ends.day }) _ _
    starts.table ends.table c.conflict.result c.conflict.ensures.some

pub returns-clause-none : goal.returns-clause-none
returns-clause-none c =
    let start_time = to_z-of_z w32 c.args.dst_start_time c.ranges.dst_start_time in
    let end_time = to_z-of_z w32 c.args.dst_end_time c.ranges.dst_end_time in
    let starts = rw (start_time, end_time, c.of.ensures, c.of-2.ensures) at c.starts-starts.ensures in
    let ends = rw (start_time, end_time, c.of.ensures, c.of-2.ensures) at c.ends-ends.ensures in
    no_rule_conflict _ (record { start_is = starts.day; end_is = ends.day }) _ _ starts.table ends.table
    c.conflict.result c.conflict.ensures.none
