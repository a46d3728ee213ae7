-- The segment is cut where the years of rules begin and end.
use Rattle.tz_rule.proofs.Common.{arith, ◌≡◌, ints, ◌∙◌, to_z-of_z, rules, w64, w32, moved_back, clamps}
use Rattle.tz_rule.proofs.RuleSegments.{IsInRuleYears-bounds, cut_segment}
use Rattle.tz_rule.proofs.timezone.alternate_time.AlternateData.segment_in_year.Goals as goal

pub returns-clause-of : goal.returns-clause-of
returns-clause-of c =
    let s = c.segment_by_order-segment in
    let from = to_z-of_z w64 c.greater_i64.result (search rules) ∙ c.greater_i64.ensures in
    let until = to_z-of_z w64 c.lesser_i64.result (search rules) ∙ c.lesser_i64.ensures in
    rw (
      from,
      until,
      to_z-of_z w64 s.result.from (search rules),
      to_z-of_z w64 s.result.until (search rules),
      to_z-of_z
          w64 c.new_year.result (search rules),
      to_z-of_z w64 c.new_year-2.result
          (search rules),
      c.new_year.ensures.value,
      c.new_year-2.ensures.value,
    )
    (cut_segment c.args.self.now (moved_back c.moved_year-moved_year.result) s.result s.ensures.of)

pub returns-clause-within : goal.returns-clause-within
returns-clause-within c =
    let s = c.segment_by_order-segment in
    let unix = to_z-of_z w64 c.args.unix_time c.ranges.unix_time in
    let near : moved_back c.moved_year-moved_year.result ≡ c.determining_year.result =
    omega (
      arith,
      ints,
      c.moved_year-moved_year.ensures.value,
      to_z-of_z w32 c.determining_year.result (search rules),
    ) in
    let within = (rw (unix, near) at s.ensures.within) (rw unix at c.determining_year.ensures.determines) in
    let year = rw unix at c.in-Some.ensures.some in
    let bounds = IsInRuleYears-bounds c.args.unix_time (c.in-Some.year, year.0, year.1) in
    let from = to_z-of_z w64 c.greater_i64.result (search rules) ∙ c.greater_i64.ensures in
    let until = to_z-of_z w64 c.lesser_i64.result (search rules) ∙ c.lesser_i64.ensures in
    rw (
      from,
      until,
      to_z-of_z w64 s.result.from (search rules),
      to_z-of_z w64 s.result.until (search rules),
      to_z-of_z
          w64 c.new_year.result (search rules),
      to_z-of_z w64 c.new_year-2.result
          (search rules),
      c.new_year.ensures.value,
      c.new_year-2.ensures.value,
    )
    (omega (arith, ints, clamps, within.0, bounds.0), omega (arith, ints, clamps, within.1, bounds.1))
