-- Up to the second before the next transition takes effect, or to the end of the rule's segment.
use Rattle.tz_zone.proofs.Common.{◌≡◌, ℤ, arith, to_z-of_z, rules, ints, w64, refl, sym, inr, inl, length, ◌∙◌, subst, ◌≤ℤ◌, ◌<ℤ◌, pos, ◌+ℤ◌, zone_of_data, IsChangeByRule}
use Rattle.tz_zone.proofs.LeapTimes.{instant_bounds}
use Rattle.tz_zone.proofs.OffsetBounds.{int_min_either, int_min_from}
use Rattle.tz_zone.proofs.ClockStages.{types_after_table, stage_later, all_reached_later, defined_at_first, ahead_at_first, clock_before_next, stage_after_next}
use Rattle.tz_zone.proofs.clock.window_types.span_from.Goals as goal

pub returns-then-stage-count-clause-holds : goal.returns-then-stage-count-clause-holds
returns-then-stage-count-clause-holds c =
    let zone = c.args.zone.now in
    let z = zone_of_data zone in
    let s = c.after_table-segment.result in
    let last_is = to_z-of_z w64 s.last (search rules) in
    let high_is = to_z-of_z w64 c.args.high c.ranges.high in
    let cut = simp (last_is, high_is) at c.min.ensures in
    let within = rw (to_z-of_z w64 c.args.since c.ranges.since) at c.after_table-segment.ensures.within in
    let count = rw c.requires.view at c.len-count.ensures in
    let all : c.args.stage.position ≡ length z.transitions = omega (arith, c.if-stage-count.true, count) in
    let (first, stage) = c.requires.stage in
    rw (to_z-of_z w64 c.min.result (search rules)) (λ v from to.
    let far : v ≤ℤ pos 80000000000000000 = omega (arith, ints, to, cut.other_bound, c.requires.window) in
    types_after_table z zone.sound c.len-count.result count v
    (λ some. all_reached_later z zone.sound first c.args.since c.args.stage stage all some v from far) s.local_time_type
    (c.after_table-segment.ensures.holds v (omega (arith, ints, within.0, from))
    (omega (arith, ints, to, cut.self_bound))))

pub returns-then-stage-count-clause-next : goal.returns-then-stage-count-clause-next
returns-then-stage-count-clause-next c = λ first from stage low past high.
    stage_later (zone_of_data c.args.zone.now) c.args.zone.now.sound first c.args.since c.args.stage stage from low
    (omega (arith, ints, high, c.requires.window.1))

pub returns-then-stage-count-clause-onward : goal.returns-then-stage-count-clause-onward
returns-then-stage-count-clause-onward c =
    let s = c.after_table-segment.result in
    let last_is = to_z-of_z w64 s.last (search rules) in
    let high_is = to_z-of_z w64 c.args.high c.ranges.high in
    let cut = simp (last_is, high_is) at c.min.ensures in
    let within = rw (to_z-of_z w64 c.args.since c.ranges.since) at c.after_table-segment.ensures.within in
    let since : c.args.since ≤ℤ c.min.result = rw cut.value
    (int_min_from c.args.since _ _ within.1 (omega (arith, ints, c.requires.window.0))) in
    rw (to_z-of_z w64 c.min.result (search rules)) (inl (refl, since))

pub returns-then-stage-count-clause-whole : goal.returns-then-stage-count-clause-whole
returns-then-stage-count-clause-whole c =
    let rule = (zone_of_data c.args.zone.now).extra_rule in
    let s = c.after_table-segment.result in
    let last_is = to_z-of_z w64 s.last (search rules) in
    let high_is = to_z-of_z w64 c.args.high c.ranges.high in
    let cut = simp (last_is, high_is) at c.min.ensures in
    rw (to_z-of_z w64 c.min.result (search rules)) (λ all. elim (int_min_either s.last c.args.high) [
      | inl e ↦ inr (subst (λ (last : ℤ). IsChangeByRule rule (last +ℤ pos 1)) (sym (cut.value ∙ e))
          (c.after_table-segment.ensures.last (λ is.
          absurd (omega (arith, ints, cut.value, e, cut.other_bound, c.requires.window.1, is)))))
      | inr e ↦ inl (cut.value ∙ e)
    ])

pub last_before-requires-clause-before : goal.last_before-requires-clause-before
last_before-requires-clause-before c =
    let zone = c.args.zone.now in
    let z = zone_of_data zone in
    let s = c.args.stage in
    let (first, stage) = c.requires.stage in
    let at_next = rw c.requires.view at c.look-next.ensures.value in
    rw (to_z-of_z w64 c.unix_leap_time.result (search rules), c.unix_leap_time.ensures) (
      first,
      (instant_bounds first stage.instant).0,
      defined_at_first z zone.sound first c.args.since s stage c.look-next.result at_next,
      ahead_at_first z zone.sound first c.args.since s stage c.look-next.result at_next,
    )

pub type_of-requires : goal.type_of-requires
type_of-requires c =
    let at_next = rw c.requires.view at c.look-next.ensures.value in
    (c.args.zone.now.sound.transitions_are c.args.stage.position).0 c.look-next.result at_next

pub returns-clause-holds : goal.returns-clause-holds
returns-clause-holds c =
    let zone = c.args.zone.now in
    let (first, stage) = c.requires.stage in
    let at_next = rw c.requires.view at c.look-next.ensures.value in
    let high_is = to_z-of_z w64 c.args.high c.ranges.high in
    let last_is = to_z-of_z w64 c.last_before.result (search rules) in
    let cut = simp (last_is, high_is) at c.min-2.ensures in
    let next_is = c.unix_leap_time.ensures in
    let end = rw (to_z-of_z w64 c.unix_leap_time.result (search rules), next_is) at c.last_before.ensures in
    rw (to_z-of_z w64 c.min-2.result (search rules)) (λ v from to.
    clock_before_next (zone_of_data zone) zone.sound first c.args.since c.args.stage stage c.look-next.result at_next v
    from (omega (arith, ints, to, cut.other_bound, c.requires.window))
    (end.before v (omega (arith, ints, to, cut.self_bound))))

pub returns-clause-next : goal.returns-clause-next
returns-clause-next c =
    let zone = c.args.zone.now in
    let at_next = rw c.requires.view at c.look-next.ensures.value in
    let high_is = to_z-of_z w64 c.args.high c.ranges.high in
    let last_is = to_z-of_z w64 c.last_before.result (search rules) in
    let cut = simp (last_is, high_is) at c.min-2.ensures in
    let next_is = c.unix_leap_time.ensures in
    let end = rw (to_z-of_z w64 c.unix_leap_time.result (search rules), next_is) at c.last_before.ensures in
    rw (to_z-of_z w64 c.min-2.result (search rules)) (λ first from stage low past high.
    let after : c.last_before.result <ℤ from = elim (int_min_either c.last_before.result c.args.high) [
      | inl e ↦ omega (arith, ints, cut.value, e, past)
      | inr e ↦ absurd (omega (arith, ints, cut.value, e, past, high))
    ] in
    stage_after_next (zone_of_data zone) zone.sound first c.args.since c.args.stage stage c.look-next.result at_next
    c.last_before.result end c.type_of.result c.type_of.ensures from low
    (omega (arith, ints, high, c.requires.window.1)) after)
