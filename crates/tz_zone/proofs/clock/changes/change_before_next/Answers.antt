-- Without leap seconds the second before the time of the transition after the position lies at the position.
use Rattle.tz_zone.proofs.Common.{◌≡◌, arith, to_z-of_z, rules, w64, refl, sym, length, ℤ, ◌∙◌, subst, ◌<◌, ap, pos, zone_of_data, ◌-ℤ◌, slice_get_read, IsReachedAt}
use Rattle.std.proofs.Common.{to_z}
use Rattle.tz_zone.proofs.EmptyLists.{none_if_empty}
use Rattle.tz_zone.proofs.PositionRuns.{plain_position_before}
use Rattle.tz_zone.proofs.clock.changes.change_before_next.Goals as goal

pub change_at_last-requires : goal.change_at_last-requires
change_at_last-requires c =
    let list = c.args.zone.now.transitions.now in
    let z = zone_of_data c.args.zone.now in
    let u = c.args.unix_time in
    let k = c.args.position in
    let none = none_if_empty c.args.zone.now.leap_seconds.now c.if-not-is_empty.ensures in
    let inside : k < length list = omega (arith, c.if-transitions-position.false) in
    let next = c.index-transitions-position.result in
    let at_next = slice_get_read list _ k next refl inside c.index-transitions-position.is in
    let same : next.unix_leap_time ≡ u = sym c.unix_leap_time.ensures
    ∙ sym (to_z-of_z w64 c.unix_leap_time.result (search rules)) ∙ ap (to_z w64) c.if-unix_leap_time-unix_time.false
    ∙ to_z-of_z w64 u c.ranges.unix_time in
    rw (to_z-of_z w64 u c.ranges.unix_time) (
      omega (arith, inside),
      subst (λ (v : ℤ). IsReachedAt z (v -ℤ pos 1) k) same
          (plain_position_before z c.args.zone.now.sound none k next at_next),
    )
