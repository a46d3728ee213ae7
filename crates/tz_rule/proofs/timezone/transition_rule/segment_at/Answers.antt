-- The type is what the alternate rule's segment says.
use Rattle.tz_rule.proofs.timezone.transition_rule.segment_at.Goals as goal

pub returns-in-Alternate-clause-holds : goal.returns-in-Alternate-clause-holds
returns-in-Alternate-clause-holds c = rw c.in-Alternate.is c.segment.ensures.holds
