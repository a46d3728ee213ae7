-- The pairs and what stands between them.
use Rattle.std.proofs.Common.{arith, subst, ◌∙◌, sym, ◌<◌, IsAscii}
use Rattle.tz_base.proofs.PrintedDigits.{middle_text-ascii, middle_text-bytes, two_digits-below}
use Rattle.tz_base.proofs.print.middle_of.Goals as goal

pub returns-clause-text : goal.returns-clause-text
returns-clause-text c =
    let f = c.args.fields.now in
    let in_range = c.requires.in_range in
    let month : f.month < 100 = omega (arith, in_range.month) in
    let day : f.month_day < 100 = omega (arith, in_range.month_day) in
    let hour : f.hour < 100 = omega (arith, in_range.hour) in
    let minute : f.minute < 100 = omega (arith, in_range.minute) in
    let second : f.second < 100 = omega (arith, in_range.second) in
    rw (
      c.pair_of-month.ensures ∙ two_digits-below f.month month,
      c.pair_of-day.ensures ∙ two_digits-below f.month_day day,
      c.pair_of-hour.ensures ∙ two_digits-below f.hour hour,
      c.pair_of-minute.ensures ∙ two_digits-below f.minute minute,
      c.pair_of-second.ensures ∙ two_digits-below f.second second,
    )
    (sym (middle_text-bytes f month day hour minute second))

pub returns-clause-ascii : goal.returns-clause-ascii
returns-clause-ascii c =
    let in_range = c.requires.in_range in
    subst IsAscii (sym (returns-clause-text c))
    (middle_text-ascii c.args.fields.now (omega (arith, in_range.month)) (omega (arith, in_range.month_day))
    (omega (arith, in_range.hour)) (omega (arith, in_range.minute)) (omega (arith, in_range.second)))
