-- The entry of the year's kind is added to January 1st.
use Rattle.tz_rule.proofs.Common.{arith, ints, ap, entry, instant_in}
use Rattle.tz_rule.proofs.timezone.year_table.YearTable.in_moved_year.Goals as goal

pub returns : goal.returns
unfolding instant_in
returns c =
    let start = c.moved_year_start-start_of_year.ensures in
    omega (
      arith,
      ints,
      start.start,
      start.bound,
      c.entry.ensures.value,
      c.entry.ensures.bound,
      ap
          (entry c.args.self.now.0) start.kind,
    )
