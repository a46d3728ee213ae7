-- The clock has the segment's type throughout it.
use Rattle.tz_query.proofs.Common.{sym, subst, refl, ap, ◌∙◌, rules, to_z-of_z, w64, zone_of, ℤ, IsClock, option_copied, ◌≤ℤ◌}
use Rattle.tz_zone.specs.Changes.{HasTypeOrNone, segment_of}
use Rattle.tz_query.proofs.query.answers.Answers.keep_segment.Goals as goal

pub returns-in-Some : goal.returns-in-Some
returns-in-Some g c =
    let z = zone_of c.args.self.now.zone in
    let segment = segment_of c.segment_at-segment.result in
    let t = c.in-Some.local_time_type in
    let from_is = to_z-of_z w64 c.from-self.result (search rules) ∙ c.from-self.ensures in
    record {
      zone_is = refl;
      sound = λ was u after before. subst (IsClock z u) (sym c.of.ensures)
          (subst (λ type. HasTypeOrNone z u type) (sym c.local_time_type.ensures ∙ ap option_copied c.in-Some.is)
          (c.segment_at-segment.ensures.segment.holds u (subst (λ (x : ℤ). x ≤ℤ u) from_is after)
          (subst (λ (x : ℤ). u ≤ℤ x) (to_z-of_z w64 c.last-self.result (search rules) ∙ c.last-self.ensures)
          before)));
      output_is = refl;
    }
