-- Where instants have no leap time a zone with transitions has no type.
use Rattle.tz_zone.proofs.Common.{to_z-of_z, w64, inr, inl, length, ◌∙◌, ap, zone_of_data, [], ◌≢◌}
use Rattle.tz_zone.proofs.SegmentTypes.{match_none}
use Rattle.tz_zone.proofs.InstantsWithLeapTime.{no_type_refused}
use Rattle.tz_zone.proofs.clock.segment.clock_segment_at.Goals as goal

pub returns-in_default-clause-at : goal.returns-in_default-clause-at
returns-in_default-clause-at c =
    let z = zone_of_data c.args.zone.now in
    let count = c.len.ensures ∙ ap length c.requires.view in
    let some : z.transitions ≢ [] = λ none. c.if-len-eq0.false (count ∙ ap length none) in
    let found = rw (to_z-of_z w64 c.args.unix_time c.ranges.unix_time) at c.undefined_segment.ensures in
    record {
      within = found.within;
      holds = λ v low high. match_none c.undefined_segment.result.local_time_type _ _ found.local_time_type
          (no_type_refused z some v (found.refused v low high));
    }

pub returns-in_default-clause-ends : goal.returns-in_default-clause-ends
returns-in_default-clause-ends c = record {
  from_is = λ not_least. inr (c.undefined_segment.ensures.from not_least);
  last_is = λ not_greatest. inl (inr (inr (c.undefined_segment.ensures.last not_greatest)));
}
