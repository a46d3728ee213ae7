-- A leap time takes effect at one instant alone.
use Rattle.tz_zone.proofs.Common.{to_z-of_z, rules, w64, rule_seen, IfErr-weaker}
use Rattle.tz_zone.proofs.RuleChecks.{no_rule_type_at}
use Rattle.tz_zone.proofs.timezone.zone_checks.rule_type_at.Goals as goal

pub returns-in-Ok-clause-err : goal.returns-in-Ok-clause-err
returns-in-Ok-clause-err c =
    let v = c.args.unix_leap_time in
    let effect = rw (to_z-of_z w64 v c.ranges.unix_leap_time) at c.in-Ok.ensures.ok in
    IfErr-weaker c.find_local_time_type.result _ _
    (λ e none. (
      none.0,
      no_rule_type_at c.args.leap_seconds.now (rule_seen c.args.rule) v c.in-Ok.unix_time effect
          (λ t type. none.1 t (rw (to_z-of_z w64 c.in-Ok.unix_time (search rules)) type)),
    ))
    c.find_local_time_type.ensures.err
