-- Without leap seconds the transition before the position takes effect at its time, and so the instant lies at the
-- position.
use Rattle.tz_zone.proofs.Common.{◌≡◌, arith, to_z-of_z, ℕ, rules, w64, refl, sym, length, ℤ, ◌∙◌, subst, ◌<◌, ap, zone_of_data, ◌-◌, SFits, slice_get_read, IsReachedAt}
use Rattle.std.proofs.Common.{to_z}
use Rattle.tz_zone.proofs.EmptyLists.{none_if_empty}
use Rattle.tz_zone.proofs.LeapTimes.{instant_bounds}
use Rattle.tz_zone.proofs.PositionRuns.{plain_position}
use Rattle.tz_zone.proofs.InstantsWithLeapTime.{plain_effect}
use Rattle.tz_zone.proofs.clock.changes.change_after_last.Goals as goal

pub change_at_next-requires : goal.change_at_next-requires
change_at_next-requires c =
    let list = c.args.zone.now.transitions.now in
    let z = zone_of_data c.args.zone.now in
    let u = c.args.unix_time in
    let k = c.args.position in
    let leaps = c.args.zone.now.leap_seconds.now in
    let none = none_if_empty leaps c.if-not-is_empty.ensures in
    let inside : k < length list = omega (arith, c.if-transitions-position.false) in
    let last = c.index-transitions-position.result in
    let at_last = slice_get_read list _ (k - 1) last refl (omega (arith, inside)) c.index-transitions-position.is in
    let time : SFits w64 c.unix_leap_time.result = search rules in
    let m = last.unix_leap_time in
    let same : m ≡ u = sym c.unix_leap_time.ensures ∙ sym (to_z-of_z w64 c.unix_leap_time.result time)
    ∙ ap (to_z w64) c.if-unix_leap_time-unix_time.false ∙ to_z-of_z w64 u c.ranges.unix_time in
    let wide = plain_effect leaps none m (instant_bounds m (rw c.unix_leap_time.ensures at time)).0 in
    let here : IsReachedAt z m k = subst (λ (i : ℕ). IsReachedAt z m i) (omega (arith, c.if-position-eq0.false))
    (plain_position z c.args.zone.now.sound none (k - 1) m last at_last wide) in
    rw (to_z-of_z w64 u c.ranges.unix_time) (omega (arith, inside), subst (λ (v : ℤ). IsReachedAt z v k) same here)
