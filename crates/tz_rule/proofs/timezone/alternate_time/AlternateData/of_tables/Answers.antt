-- What is kept obeys the rules of its making.
use Rattle.tz_rule.proofs.Common.{rules}
use Rattle.tz_rule.proofs.OrderByTables.{rule_is_consistent}
use Rattle.tz_rule.proofs.RulesAcrossYears.{kept_from}
use Rattle.tz_rule.proofs.timezone.alternate_time.AlternateData.of_tables.Goals as goal

pub invariant_of-result : goal.invariant_of-result
invariant_of-result c =
    kept_from _ c.requires.range c.requires.days c.requires.starts c.requires.ends c.requires.order c.requires.first
    (search rules)

pub returns-clause-ok : goal.returns-clause-ok
returns-clause-ok c = rule_is_consistent _ c.requires.days _ _ c.requires.starts c.requires.ends c.requires.range
    c.requires.order
