-- The tables have the days before each month.
use Rattle.std.proofs.Common.{true, false, arith, ◌-◌}
use Rattle.std.proofs.lemmas.Int.{ints}
use Rattle.tz_base.proofs.MonthsFromMarch.{months_length-entry}
use Rattle.tz_base.proofs.calendar.days_before_month.Goals as goal

pub overflow_cast-result : goal.overflow_cast-result
overflow_cast-result c =
    let found = months_length-entry true (c.args.month - 1) (omega arith) in
    rw found.0 (omega (arith, ints))

pub overflow_cast-result-else-leap : goal.overflow_cast-result-else-leap
overflow_cast-result-else-leap c =
    let found = months_length-entry false (c.args.month - 1) (omega arith) in
    rw found.0 (omega (arith, ints))

pub returns-then-leap : goal.returns-then-leap
returns-then-leap c =
    let found = months_length-entry true (c.args.month - 1) (omega arith) in
    rw (c.if-leap.true, found.0) (record {
      value = omega (arith, ints);
      bound = omega (arith, ints);
    })

pub returns-else-leap : goal.returns-else-leap
returns-else-leap c =
    let found = months_length-entry false (c.args.month - 1) (omega arith) in
    rw (c.if-leap.false, found.0) (record {
      value = omega (arith, ints);
      bound = omega (arith, ints);
    })
