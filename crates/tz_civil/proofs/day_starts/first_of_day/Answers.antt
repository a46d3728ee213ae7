-- With one type in the window the day begins at midnight, and with two around their change.
use Rattle.std.proofs.Common.{◌≡◌, ℤ, pos, ◌+ℤ◌, ◌-ℤ◌, ◌*ℤ◌, ◌≤ℤ◌, ◌<ℤ◌, arith, rules, subst}
use Rattle.std.proofs.lemmas.Int.{ints, to_z-of_z}
use mir.Syntax.{w32, w64}
use Rattle.tz_zone.specs.Clock.{IsClock}
use Rattle.tz_zone.specs.Offsets.{AreEndOffsets}
use Rattle.tz_zone.specs.Table.{Zone}
use Rattle.tz_zone.specs.ZoneOfData.{zone_of_data}
use Rattle.tz_civil.specs.DayStarts.{midnight}
use Rattle.tz_civil.proofs.CivilDates.{MatchOption_then}
use Rattle.tz_civil.proofs.DayWalks.{fits_from_bounds, not_shown_before, skips, starts_at_midnight, window_of_day, window_order}
use Rattle.tz_civil.proofs.day_starts.first_of_day.Goals as goal

pub first_by_segments-requires-clause-window : goal.first_by_segments-requires-clause-window
first_by_segments-requires-clause-window c =
    let z = zone_of_data c.args.zone.now in
    let day = c.args.day in
    let o = c.offsets-least.result in
    let ends = c.offsets-least.ensures in
    let low = c.window-low.result.0 in
    let high = c.window-low.result.1 in
    let low_is : low ≡ midnight day -ℤ o.1 = omega (arith, ints, c.window-low.ensures.low, c.requires) in
    let high_is : high ≡ midnight day +ℤ pos 86399 -ℤ o.0 =
    omega (arith, ints, c.window-low.ensures.high, c.requires) in
    let window = window_of_day z day o.0 o.1 low high ends low_is high_is in
    let low_cast = to_z-of_z w64 low (search rules) in
    let high_cast = to_z-of_z w64 high (search rules) in
    rw (to_z-of_z w64 day c.ranges.day, low_cast, high_cast) window

pub returns-in-One-clause-ok : goal.returns-in-One-clause-ok
returns-in-One-clause-ok c =
    let z = zone_of_data c.args.zone.now in
    let day = c.args.day in
    let o = c.offsets-least.result in
    let ends = c.offsets-least.ensures in
    let low = c.window-low.result.0 in
    let high = c.window-low.result.1 in
    let low_is : low ≡ midnight day -ℤ o.1 = omega (arith, ints, c.window-low.ensures.low, c.requires) in
    let high_is : high ≡ midnight day +ℤ pos 86399 -ℤ o.0 =
    omega (arith, ints, c.window-low.ensures.high, c.requires) in
    let window = window_of_day z day o.0 o.1 low high ends low_is high_is in
    let low_cast = to_z-of_z w64 low (search rules) in
    let high_cast = to_z-of_z w64 high (search rules) in
    let t = c.in-One.local_time_type.now in
    let types = rw (low_cast, high_cast) at c.in-One.ensures.types in
    let u = c.instant_of.result in
    let first_fits =
    fits_from_bounds (pos 86400 *ℤ day) (omega (arith, ints, c.requires)) (omega (arith, ints, c.requires)) in
    let at = rw (
      to_z-of_z w64 day c.ranges.day,
      to_z-of_z w64 (pos 86400 *ℤ day) first_fits,
      to_z-of_z w32 c.ut_offset.result (search rules),
      c.ut_offset.ensures.value,
    ) at c.instant_of.ensures in
    rw (to_z-of_z w64 u (search rules))
    (starts_at_midnight z day low high u t window types at)

pub returns-in-Two-clause-ok : goal.returns-in-Two-clause-ok
returns-in-Two-clause-ok c =
    let z = zone_of_data c.args.zone.now in
    let day = c.args.day in
    let o = c.offsets-least.result in
    let ends = c.offsets-least.ensures in
    let low = c.window-low.result.0 in
    let high = c.window-low.result.1 in
    let low_is : low ≡ midnight day -ℤ o.1 = omega (arith, ints, c.window-low.ensures.low, c.requires) in
    let high_is : high ≡ midnight day +ℤ pos 86399 -ℤ o.0 =
    omega (arith, ints, c.window-low.ensures.high, c.requires) in
    let window = window_of_day z day o.0 o.1 low high ends low_is high_is in
    let low_cast = to_z-of_z w64 low (search rules) in
    let high_cast = to_z-of_z w64 high (search rules) in
    let types = rw (low_cast, high_cast) at c.in-Two.ensures.types in
    let jump = c.in-Two.unix_time in
    let before : (v : ℤ) → low ≤ℤ v → v <ℤ jump → IsClock z v c.in-Two.before.now =
    types.2 in
    let after : (v : ℤ) → jump ≤ℤ v → v ≤ℤ high → IsClock z v c.in-Two.after.now =
    types.3 in
    let around = rw (low_cast, to_z-of_z w64 jump (search rules), high_cast) at c.first_around.ensures in
    MatchOption_then c.first_around.result _ _ _
    (around z day (omega (arith, ints, c.requires)) (not_shown_before z day low high window) before after)
    (λ ahead.
    skips z day low high (high +ℤ pos 1) window ahead (omega (arith, ints)) (
      low,
      omega (arith, ints),
      window_order z day low high window,
      c.in-Two.before.now,
      before low (omega (arith, ints)) types.0,
    ))

pub returns-in-More-clause-ok : goal.returns-in-More-clause-ok
returns-in-More-clause-ok c = rw (to_z-of_z w64 c.args.day c.ranges.day) at c.first_by_segments.ensures.ok
