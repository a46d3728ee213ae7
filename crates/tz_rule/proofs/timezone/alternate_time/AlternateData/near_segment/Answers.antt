-- The likely year is one whose switches determine the segment, if they are far inside their years.
use Rattle.tz_rule.proofs.Common.{to_z-of_z, w64, true, false}
use Rattle.tz_rule.proofs.InnerSwitches.{determining_if_likely}
use Rattle.tz_rule.proofs.RuleSegments.{tried_segment}
use Rattle.tz_rule.proofs.timezone.alternate_time.AlternateData.near_segment.Goals as goal

pub returns-then-ends_next_year-clause-of : goal.returns-then-ends_next_year-clause-of
returns-then-ends_next_year-clause-of c =
    tried_segment _ _ _ c.in-Some.ensures.year c.segment_by_order-segment.ensures.of

pub returns-else-ends_next_year-clause-of : goal.returns-else-ends_next_year-clause-of
returns-else-ends_next_year-clause-of c =
    tried_segment _ _ _ c.in-Some.ensures.year c.segment_by_order-segment-else-ends_next_year.ensures.of

pub returns-then-ends_next_year-clause-within : goal.returns-then-ends_next_year-clause-within
returns-then-ends_next_year-clause-within c =
    let is = rw (to_z-of_z w64 c.args.unix_time c.ranges.unix_time) at c.in-Some.ensures.likely in
    λ inner. (rw (to_z-of_z w64 c.args.unix_time c.ranges.unix_time) at c.segment_by_order-segment.ensures.within)
    (determining_if_likely _ true _ _ is inner)

pub returns-else-ends_next_year-clause-within : goal.returns-else-ends_next_year-clause-within
returns-else-ends_next_year-clause-within c =
    let is = rw (to_z-of_z w64 c.args.unix_time c.ranges.unix_time) at c.in-Some.ensures.likely in
    λ inner. (rw (to_z-of_z w64 c.args.unix_time
    c.ranges.unix_time) at c.segment_by_order-segment-else-ends_next_year.ensures.within)
    (determining_if_likely _ false _ _ is inner)
