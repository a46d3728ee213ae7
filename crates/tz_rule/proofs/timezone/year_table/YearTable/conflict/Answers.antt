-- All distances that are near were tried.
use Rattle.tz_rule.proofs.Common.{instant_in}
use Rattle.tz_rule.proofs.WeakerClauses.{IfNone-weaker}
use Rattle.tz_rule.proofs.YearlyInstants.{none_near}
use Rattle.tz_rule.proofs.timezone.year_table.YearTable.conflict.Goals as goal

pub returns-clause-none : goal.returns-clause-none
returns-clause-none c =
    IfNone-weaker c.conflict_at-3.result
    (λ before. none_near (instant_in c.args.self.now.0) (instant_in c.args.ends.now.0) c.in_default.ensures.none
    c.in_default-conflict_at.ensures.none before)
    c.conflict_at-3.ensures.none
