-- The table has the seconds of each place.
use Rattle.tz_rule.proofs.SpansOfDays.{seconds_later-at, seconds_later-bound}
use Rattle.tz_rule.proofs.timezone.year_table.seconds_later.Goals as goal

pub returns-clause-value : goal.returns-clause-value
returns-clause-value c = seconds_later-at c.args.place c.requires

pub returns-clause-bound : goal.returns-clause-bound
returns-clause-bound c = seconds_later-bound c.args.place c.requires
