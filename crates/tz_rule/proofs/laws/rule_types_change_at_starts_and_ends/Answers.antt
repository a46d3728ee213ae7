-- No span begins or ends in between.
use Rattle.tz_rule.proofs.ChangePoints.{alternate_type_unchanged}
use Rattle.tz_rule.proofs.laws.rule_types_change_at_starts_and_ends.Goals as goal

pub returns : goal.returns
returns c = alternate_type_unchanged
