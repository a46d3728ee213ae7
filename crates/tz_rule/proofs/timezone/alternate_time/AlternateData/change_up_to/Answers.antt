-- The switch next to the instant is the change.
use Rattle.tz_rule.proofs.Common.{arith, ints, to_z-of_z, w64}
use Rattle.tz_rule.proofs.RuleWalks.{switch_is_change_up_to}
use Rattle.tz_rule.proofs.timezone.alternate_time.AlternateData.change_up_to.Goals as goal

pub returns-in-Some-Some-default : goal.returns-in-Some-Some-default
returns-in-Some-Some-default c =
    let found = c.in-Some-Some-default in
    let t = found.switch in
    let k = c.change_at.result in
    let at = rw (found.field-0-0-is, to_z-of_z w64 c.args.unix_time c.ranges.unix_time) at found.ensures.last in
    rw c.change_at.ensures.time (switch_is_change_up_to c.args.self.now found.ensures.differ t.unix_time t.is_start
    k.before.now k.after.now c.change_at.ensures.before c.change_at.ensures.after c.args.unix_time
    (omega (arith, ints, c.ranges.unix_time)) at)
