-- From the later one of the last transition's start and of the rule's segment on, up to the rule's end, as long as
-- there are leap times.
use Rattle.tz_zone.proofs.Common.{◌≡◌, arith, to_z-of_z, rules, ints, w64, inr, inl, ℤ, subst, List, ◌≤ℤ◌, ◌<ℤ◌, pos, zone_of_data, ◌+ℤ◌, SFits, Option, by_lt_z, negsuc, LeapSecond, ◌≢◌, ◌⊎◌, IsWideEffect, TransitionRule, IsPastInstants, int_max, IsChangeByRule}
use Rattle.tz_zone.proofs.OffsetBounds.{int_max_either}
use Rattle.tz_zone.proofs.LeapTimes.{instant_bounds}
use Rattle.tz_zone.proofs.LeapReached.{up_to_last, reached_since}
use Rattle.tz_zone.proofs.clock.segment.segment_from_last.Goals as goal

-- if the rule's segment begins later than the transition starts it begins with a change of the rule
begin_is : (leaps : List LeapSecond) (rule : Option TransitionRule) (v from first cut : ℤ) → IsWideEffect leaps v from
    → cut ≡ int_max from first → from ≤ℤ cut
    → (first ≢ negsuc 9223372036854775807 → IsChangeByRule rule first) → IsWideEffect leaps v cut
    ⊎ IsChangeByRule rule cut
begin_is leaps rule v from first cut wide value low change = by_lt_z from cut
    (λ h. elim (int_max_either from first) [
      | inl e ↦ absurd (omega (arith, ints, value, e, h))
      | inr e ↦
          let same : first ≡ cut = omega (arith, ints, value, e) in
          inr (subst (IsChangeByRule rule) same
          (change (λ least. absurd (omega (arith, ints, same, least, h, wide.low)))))
    ])
    (λ h. let same : from ≡ cut = omega (arith, ints, h, low) in inl (subst (IsWideEffect leaps v) same wide))

-- at its end the rule changes, or leap times have left 64 bits before that
end_is : (leaps : List LeapSecond) (rule : Option TransitionRule) (last high : ℤ) → last ≤ℤ high
    → high ≤ℤ pos 9223372036854775807
    → ((w : ℤ) → last <ℤ w → w ≤ℤ high → IsPastInstants leaps w)
    → (high ≢ pos 9223372036854775807 → IsChangeByRule rule (high +ℤ pos 1))
    → last ≢ pos 9223372036854775807 → IsPastInstants leaps (last +ℤ pos 1) ⊎ IsChangeByRule rule (last +ℤ pos 1)
end_is leaps rule last high up_to greatest past change other = by_lt_z last high
    (λ h. inl (past (last +ℤ pos 1) (omega (arith, ints)) (omega (arith, ints, h))))
    (λ h.
    let same : high ≡ last = omega (arith, ints, h, up_to) in
    inr (subst (λ (v : ℤ). IsChangeByRule rule (v +ℤ pos 1)) same
    (change (λ e. absurd (other (omega (arith, ints, same, e)))))))

pub returns : goal.returns
returns c =
    let z = zone_of_data c.args.zone.now in
    let leaps = z.leap_seconds in
    let leaps_are = c.args.zone.now.sound.leap_seconds_are in
    let u = c.args.unix_time in
    let s = c.after_table-segment.result in
    let after = c.after_table-segment.ensures in
    let from : SFits w64 c.effect_of_reached-from.result = search rules in
    let end : SFits w64 s.last = search rules in
    let last : SFits w64 c.last_instant_up_to.result = search rules in
    let within = rw (to_z-of_z w64 u c.ranges.unix_time) at after.within in
    let wide = rw (
      to_z-of_z w64 c.unix_leap_time.result
          (search rules),
      c.unix_leap_time.ensures,
    ) at c.effect_of_reached-from.ensures in
    let greatest = rw (
      to_z-of_z w64 c.effect_of_reached-from.result from,
      to_z-of_z w64 s.from (search rules),
    ) at c.max.ensures in
    let cut = rw (to_z-of_z w64 s.last end) at c.last_instant_up_to.ensures in
    let begin = wide.least u c.requires in
    rw (to_z-of_z w64 c.max.result (search rules), to_z-of_z w64 c.last_instant_up_to.result last) (record {
      within = (
        elim (int_max_either c.effect_of_reached-from.result s.from) [
          | inl e ↦ omega (arith, ints, greatest.value, e, begin)
          | inr e ↦
              omega (arith, ints, greatest.value, e, within.0)
        ],
        up_to_last leaps leaps_are c.last_instant_up_to.result s.last u cut.past within.1
            (λ past. c.requires.1.not_refused (inr past)),
      );
      reached = λ v low high. reached_since leaps leaps_are _ c.effect_of_reached-from.result
          c.last_instant_up_to.result v wide cut.within (omega (arith, ints, greatest.self_bound, low)) high;
      holds = λ v low high. after.holds v (omega (arith, ints, greatest.other_bound, low))
          (omega (arith, ints, cut.up_to, high));
      from = begin_is leaps z.extra_rule _ c.effect_of_reached-from.result s.from c.max.result wide greatest.value
          greatest.self_bound after.from;
      last = end_is leaps z.extra_rule c.last_instant_up_to.result s.last cut.up_to (instant_bounds s.last end).1
          cut.past after.last;
    })
