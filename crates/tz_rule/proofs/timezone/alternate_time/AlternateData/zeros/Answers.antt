-- All zeros are the data of a rule.
use Rattle.tz_rule.proofs.ZeroRules.{zeros_kept}
use Rattle.tz_rule.proofs.timezone.alternate_time.AlternateData.zeros.Goals as goal

pub invariant_of-result : goal.invariant_of-result
invariant_of-result c = rw (
  c.utc.ensures,
  c.utc-2.ensures,
  c.zeros.ensures,
  c.zeros-2.ensures,
  c.zeros-3.ensures,
  c.zeros-4.ensures,
) zeros_kept
