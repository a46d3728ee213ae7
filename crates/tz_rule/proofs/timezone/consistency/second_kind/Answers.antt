-- The table has the kind of each pair's second year.
use Rattle.tz_rule.proofs.PairTables.{second_kind-at}
use Rattle.tz_rule.proofs.timezone.consistency.second_kind.Goals as goal

pub returns-clause-value : goal.returns-clause-value
returns-clause-value c = second_kind-at c.args.pair c.requires
