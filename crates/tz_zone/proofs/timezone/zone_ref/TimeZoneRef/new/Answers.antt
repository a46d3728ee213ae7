-- The zone's data has the rule that was passed.
use Rattle.tz_zone.proofs.Common.{◌∙◌, ap, Zone}
use Rattle.tz_zone.proofs.timezone.zone_ref.TimeZoneRef.new.Goals as goal

pub invariant_of-result : goal.invariant_of-result
invariant_of-result c = record {
  same = ap (λ (z : Zone). z.extra_rule) c.in_ok-zone_data.ensures.parts ∙ c.rule_ref-rule.ensures;
}
