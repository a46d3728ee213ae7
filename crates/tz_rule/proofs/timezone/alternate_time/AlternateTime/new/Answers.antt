-- If starts and ends change their order, the rule is inconsistent.
use Rattle.tz_rule.proofs.Common.{refl, to_z-of_z, inr, w32}
use Rattle.tz_rule.proofs.OrderByTables.{rule_is_inconsistent}
use Rattle.tz_rule.proofs.timezone.alternate_time.AlternateTime.new.Goals as goal

pub returns-in_default-clause-err : goal.returns-in_default-clause-err
returns-in_default-clause-err c =
    let start_time = to_z-of_z w32 c.args.dst_start_time c.ranges.dst_start_time in
    let end_time = to_z-of_z w32 c.args.dst_end_time c.ranges.dst_end_time in
    let starts = rw (start_time, end_time, c.of.ensures, c.of-2.ensures) at c.starts-starts.ensures in
    let ends = rw (start_time, end_time, c.of.ensures, c.of-2.ensures) at c.ends-ends.ensures in
    let range = rw (start_time, end_time, c.of.ensures, c.of-2.ensures) at c.in-Ok.ensures.ok in
    inr (
      refl,
      range,
      rule_is_inconsistent _ (record { start_is = starts.day; end_is = ends.day }) _ _ starts.table
          ends.table c.in_default.ensures.none,
    )
