-- Each month has 28 days.
use Rattle.std.proofs.Common.{arith}
use Rattle.tz_base.specs.Days.{is_leap}
use Rattle.tz_base.proofs.CivilReadings.{month_length-ge}
use Rattle.tz_base.proofs.calendar.has_month_day.Goals as goal

pub returns-then-month_day-le28 : goal.returns-then-month_day-le28
returns-then-month_day-le28 c =
    let least = month_length-ge (is_leap c.args.year) c.args.month in
    omega arith
