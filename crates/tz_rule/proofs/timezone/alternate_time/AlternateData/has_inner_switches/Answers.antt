-- The flag that is kept is that of the parts.
use Rattle.tz_rule.proofs.Common.{rule_of}
use Rattle.tz_rule.proofs.InnerSwitches.{HasInnerSwitches-from}
use Rattle.tz_rule.proofs.timezone.alternate_time.AlternateData.has_inner_switches.Goals as goal

pub returns : goal.returns
returns c =
    let kept = c.self.invariant in
    rw (← c.self.view_is) (HasInnerSwitches-from (rule_of c.self.inside.parts) kept.are_days
    c.self.inside.has_inner_switches kept.inner_switches)
