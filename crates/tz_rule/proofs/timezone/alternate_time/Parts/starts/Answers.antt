-- The local time is moved by the offset.
use Rattle.tz_rule.proofs.Common.{arith, ints, ◌∙◌, ap, start_table, day_table}
use Rattle.tz_rule.proofs.timezone.alternate_time.Parts.starts.Goals as goal

pub returns-clause-table : goal.returns-clause-table
unfolding start_table
returns-clause-table c =
    (rw c.requires.day at c.of_day.ensures.table) ∙ ap (day_table c.args.self.now.dst_start)
    (omega (arith, ints, c.requires.range))
