-- The transition before the run is reached at each instant of the position.
use Rattle.tz_zone.proofs.Common.{arith, to_z-of_z, rules, w64, refl, ◌-◌, slice_get_read}
use Rattle.tz_zone.proofs.clock.changes.run_start.Goals as goal

pub effect_of_reached-effect-requires-clause-reached : goal.effect_of_reached-effect-requires-clause-reached
effect_of_reached-effect-requires-clause-reached c =
    let start = c.first_of_run-start.result in
    let (w, high, at) = c.requires.at in
    let bounds = c.first_of_run-start.ensures.within in
    let change = c.index-transitions-start.result in
    let at_start = slice_get_read c.args.zone.now.transitions.now _ (start - 1) change refl
    (omega (arith, bounds, c.requires.position)) c.index-transitions-start.is in
    rw (to_z-of_z w64 c.unix_leap_time.result (search rules), c.unix_leap_time.ensures)
    (w, high, (at.time, at.time_is, at.reached (start - 1) change (omega (arith, bounds)) at_start))

pub returns : goal.returns
returns c =
    let bounds = c.first_of_run-start.ensures.within in
    let change = c.index-transitions-start.result in
    let at_start = slice_get_read c.args.zone.now.transitions.now _ (c.first_of_run-start.result - 1) change refl
    (omega (arith, bounds, c.requires.position)) c.index-transitions-start.is in
    let wide = rw (
      to_z-of_z w64 c.unix_leap_time.result
          (search rules),
      c.unix_leap_time.ensures,
    ) at c.effect_of_reached-effect.ensures in
    rw (to_z-of_z w64 c.effect_of_reached-effect.result (search rules)) (record {
      some = bounds.0;
      up_to = bounds.1;
      change = change;
      change_is = at_start;
      effect = wide;
      types = c.first_of_run-start.ensures.types;
      all = c.first_of_run-start.ensures.all;
    })
