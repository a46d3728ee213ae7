-- From the day to the Sunday and on to the week day are whole weeks and the days that are found.
use Rattle.std.proofs.Common.{pos, arith}
use Rattle.std.proofs.lemmas.Int.{ints}
use Rattle.tz_civil.proofs.DaysOfWeeks.{day_until}
use Rattle.tz_civil.proofs.date.week_days.days_until.Goals as goal

pub returns-clause-value : goal.returns-clause-value
returns-clause-value c =
    day_until c.args.day (pos 784351577005) 112050225287 _ c.args.week_day (omega (arith, ints)) c.requires.week_day
    (omega (arith, ints, c.requires))
