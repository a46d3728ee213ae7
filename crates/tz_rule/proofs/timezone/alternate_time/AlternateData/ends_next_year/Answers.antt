-- The pairing that is kept is that of the parts.
use Rattle.tz_rule.proofs.Common.{rule_of}
use Rattle.tz_rule.proofs.RulesAcrossYears.{MatchBool-ends_come_first}
use Rattle.tz_rule.proofs.timezone.alternate_time.AlternateData.ends_next_year.Goals as goal

pub returns : goal.returns
returns c =
    let kept = c.self.invariant in
    rw (← c.self.view_is, kept.pairing) (MatchBool-ends_come_first (rule_of c.self.inside.parts) kept.are_days)
