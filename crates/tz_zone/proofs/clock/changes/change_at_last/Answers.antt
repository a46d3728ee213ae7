-- Without leap seconds the last transition has taken effect at its time, and the second before lies at the position
-- before it.
use Rattle.tz_zone.proofs.Common.{◌≡◌, arith, to_z-of_z, ℕ, rules, ints, w64, refl, length, subst, ◌<◌, ◌<ℤ◌, pos, zone_of_data, ◌-ℤ◌, ◌-◌, ◌≤◌, SFits, negsuc, slice_get_read, IsTypeOfLast, change_of, IsRunStart, LiesAt}
use Rattle.tz_zone.proofs.EmptyLists.{none_if_empty}
use Rattle.tz_zone.proofs.LeapTimes.{instant_bounds}
use Rattle.tz_zone.proofs.InstantsWithLeapTime.{plain_effect}
use Rattle.tz_zone.proofs.ChangeSpans.{is_preceding}
use Rattle.tz_zone.proofs.PositionRuns.{effect_up_to, clock_before_start, clock_at_start, none_since, plain_position_before, type_after}
use Rattle.tz_zone.proofs.clock.changes.change_at_last.Goals as goal

pub type_of-after-requires : goal.type_of-after-requires
type_of-after-requires c =
    let last = c.index-transitions-position.result in
    let inside : c.args.position < length c.args.zone.now.transitions.now =
    omega (arith, c.if-transitions-position.false) in
    let at = slice_get_read c.args.zone.now.transitions.now _ (c.args.position - 1) last refl
    (omega (arith, inside)) c.index-transitions-position.is in
    (c.args.zone.now.sound.transitions_are (c.args.position - 1)).0 last at

pub returns : goal.returns
returns c =
    let list = c.args.zone.now.transitions.now in
    let z = zone_of_data c.args.zone.now in
    let sound = c.args.zone.now.sound in
    let until = c.args.unix_time in
    let u = until -ℤ pos 1 in
    let k = c.args.position in
    let leaps = c.args.zone.now.leap_seconds.now in
    let none = none_if_empty leaps c.if-not-is_empty.ensures in
    let inside : k < length list = omega (arith, c.if-transitions-position.false) in
    let some : 0 < k = omega (arith, c.if-position-eq0.false) in
    let last = c.index-transitions-position.result in
    let at_last = slice_get_read list _ (k - 1) last refl (omega (arith, inside)) c.index-transitions-position.is in
    let time : SFits w64 c.unix_leap_time-time.result = search rules in
    let m = last.unix_leap_time in
    let fits : SFits w64 m = rw c.unix_leap_time-time.ensures at time in
    let low : negsuc 9223372036854775807 <ℤ m =
    omega (
      arith,
      ints,
      c.if-time.false,
      c.unix_leap_time-time.ensures,
      to_z-of_z w64 c.unix_leap_time-time.result
          time,
      (instant_bounds m fits).0,
    ) in
    let wide = plain_effect leaps none m (instant_bounds m fits).0 in
    let s = c.type_of-after.result.now in
    let type : IsTypeOfLast z k s = subst (λ (i : ℕ). IsTypeOfLast z i s) (omega (arith, some))
    (type_after z (k - 1) last s at_last c.type_of-after.ensures) in
    let types : (j : ℕ) → k ≤ j → j ≤ k → IsTypeOfLast z j s = λ j from to. let e : k ≡ j = omega (arith, from, to) in
    subst (λ (i : ℕ). IsTypeOfLast z i s) e type in
    let run : IsRunStart z k k m = record {
      some = some;
      up_to = omega arith;
      change = last;
      change_is = at_last;
      effect = wide;
      types = λ less. (s, types);
      all = λ e. refl;
    } in
    let earlier : LiesAt z (m -ℤ pos 1) (k - 1) =
    (omega (arith, inside), plain_position_before z sound none (k - 1) last at_last) in
    let before = clock_before_start z sound k k m run (k - 1) earlier c.type_before-before.result.now
    (c.type_before-before.ensures.value) in
    let after = clock_at_start z sound k k m run u c.requires inside s type in
    let no_change = none_since z sound k k m run u c.requires until
    (λ d above below. absurd (omega (arith, ints, above, below))) (λ all. absurd (omega (arith, all, inside))) in
    let by_types =
    rw (
      to_z-of_z w64 c.unix_leap_time-time.result
          time,
      c.unix_leap_time-time.ensures,
    ) at c.in_ok-change.ensures.change in
    let found = by_types z low before after in
    let below : m <ℤ until = omega (arith, ints, effect_up_to z sound k k m run u c.requires) in
    is_preceding z until m (change_of c.in_ok-change.change) below no_change found.0 found.1
