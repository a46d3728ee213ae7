-- The table has the kind of each pair's first year.
use Rattle.tz_rule.proofs.PairTables.{first_kind-at}
use Rattle.tz_rule.proofs.timezone.consistency.first_kind.Goals as goal

pub returns-clause-value : goal.returns-clause-value
returns-clause-value c = first_kind-at c.args.pair c.requires
