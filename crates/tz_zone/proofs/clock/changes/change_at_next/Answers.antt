-- Without leap seconds the next transition takes effect at its time, and the one after it is still ahead then.
use Rattle.tz_zone.proofs.Common.{◌≡◌, arith, to_z-of_z, ℕ, rules, ints, w64, refl, length, subst, ◌<◌, pos, zone_of_data, ◌≤◌, ◌+ℤ◌, ◌+◌, SFits, slice_get_read, IsTypeOfLast, change_of, HasNoChange}
use Rattle.tz_zone.proofs.EmptyLists.{none_if_empty}
use Rattle.tz_zone.proofs.LeapTimes.{instant_bounds}
use Rattle.tz_zone.proofs.Positions.{clock_at_position}
use Rattle.tz_zone.proofs.InstantsWithLeapTime.{plain_effect, plain_leap}
use Rattle.tz_zone.proofs.ChangeSpans.{is_following}
use Rattle.tz_zone.proofs.PositionRuns.{until_effect, plain_position, type_after}
use Rattle.tz_zone.proofs.clock.changes.change_at_next.Goals as goal

pub type_of-after-requires : goal.type_of-after-requires
type_of-after-requires c =
    let change = c.index-transitions-position.result in
    let inside : c.args.position + 1 < length c.args.zone.now.transitions.now =
    omega (arith, c.if-transitions-position.false) in
    let at = slice_get_read c.args.zone.now.transitions.now _ c.args.position change refl
    (omega (arith, inside)) c.index-transitions-position.is in
    (c.args.zone.now.sound.transitions_are c.args.position).0 change at

pub returns : goal.returns
returns c =
    let list = c.args.zone.now.transitions.now in
    let z = zone_of_data c.args.zone.now in
    let sound = c.args.zone.now.sound in
    let u = c.args.unix_time in
    let k = c.args.position in
    let leaps = c.args.zone.now.leap_seconds.now in
    let none = none_if_empty leaps c.if-not-is_empty.ensures in
    let inside : k + 1 < length list = omega (arith, c.if-transitions-position.false) in
    let change = c.index-transitions-position.result in
    let at_k = slice_get_read list _ k change refl (omega (arith, inside)) c.index-transitions-position.is in
    let at = c.requires.1 in
    let t = c.type_before-before.result.now in
    let type = c.type_before-before.ensures.value in
    let types : (j : ℕ) → k ≤ j → j ≤ k → IsTypeOfLast z j t = λ j from to. let e : k ≡ j = omega (arith, from, to) in
    subst (λ (i : ℕ). IsTypeOfLast z i t) e type in
    let s = c.type_of-after.result.now in
    let time : SFits w64 c.unix_leap_time.result = search rules in
    let m = change.unix_leap_time in
    let wide = plain_effect leaps none m (instant_bounds m (rw c.unix_leap_time.ensures at time)).0 in
    let defined = (plain_leap leaps none m).not_refused in
    let none_yet : HasNoChange z u (u +ℤ pos 1) = λ d above below. absurd (omega (arith, ints, above, below)) in
    let (later, low, no_change, before) = until_effect z sound k k u t change at (omega arith) at_k types m wide defined
    u (instant_bounds u c.ranges.unix_time).0 (omega (arith, ints)) none_yet in
    let after = clock_at_position z sound (k + 1) m s inside (plain_position z sound none k m change at_k wide)
    (type_after z k change s at_k c.type_of-after.ensures) in
    let by_types = rw (
      to_z-of_z w64 c.unix_leap_time.result time,
      c.unix_leap_time.ensures,
    ) at c.in_ok-change.ensures.change in
    let found = by_types z low before after in
    is_following z u m (change_of c.in_ok-change.change) later no_change found.0 found.1
