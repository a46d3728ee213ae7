-- The first fault is named: those of the offsets come before those of the times.
use Rattle.tz_rule.proofs.Common.{rules}
use Rattle.tz_rule.proofs.timezone.alternate_time.Parts.check_range.Goals as goal

pub returns-then-not-is_rule_time-clause-err : goal.returns-then-not-is_rule_time-clause-err
returns-then-not-is_rule_time-clause-err c = search rules

pub returns-clause-ok : goal.returns-clause-ok
returns-clause-ok c = search rules
