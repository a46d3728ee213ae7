-- The day is as many days after the first one as its week day.
use Rattle.std.proofs.Common.{◌≡◌, ◌+◌, arith, rules, pos, ◌+ℤ◌, ap, ◌∙◌}
use Rattle.std.proofs.lemmas.Int.{ints, to_z-of_z}
use mir.Syntax.{w32, w64}
use Rattle.tz_base.specs.Days.{week_day_of, day_number}
use Rattle.tz_base.proofs.DaysOfYears.{day_number-is}
use Rattle.tz_civil.proofs.date.week_days.first_with_week_day.Goals as goal

pub returns-clause-value : goal.returns-clause-value
returns-clause-value c =
    let year = c.args.year in
    let first = rw (to_z-of_z w32 year c.ranges.year) at c.days_since_unix_epoch.ensures.value in
    let apart : day_number year c.args.month (c.days_until.result + 1)
    ≡ c.days_since_unix_epoch.result +ℤ pos c.days_until.result =
    rw (first, day_number-is year c.args.month (c.days_until.result + 1), day_number-is year c.args.month 1)
    (omega (arith, ints)) in
    ap week_day_of apart
    ∙ (rw (to_z-of_z w64 c.days_since_unix_epoch.result (search rules)) at c.days_until.ensures.value)
