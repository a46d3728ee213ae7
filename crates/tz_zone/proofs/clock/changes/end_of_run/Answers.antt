-- The type at the next position is that of the transition before it.
use Rattle.tz_zone.proofs.Common.{arith, refl, sym, length, ◌∙◌, subst, ◌<◌, zone_of_data, LocalTimeType, ◌+◌, slice_get_read, IsTypeAt, Decides-same_type}
use Rattle.tz_zone.proofs.PositionRuns.{type_after, types_on}
use Rattle.tz_zone.proofs.clock.changes.end_of_run.Goals as goal

pub type_of-requires : goal.type_of-requires
type_of-requires c =
    let change = c.index-transitions-end.result in
    let at = slice_get_read c.args.zone.now.transitions.now _ c.loop-end.end change refl
    (omega (arith, c.loop-end-test.true)) c.index-transitions-end.is in
    (c.args.zone.now.sound.transitions_are c.loop-end.end).0 change at

pub loop-end-preserved : goal.loop-end-preserved
loop-end-preserved c =
    let z = zone_of_data c.args.zone.now in
    let end = c.loop-end.end in
    let change = c.index-transitions-end.result in
    let inside : end + 1 < length c.args.zone.now.transitions.now = omega (arith, c.loop-end-test.true) in
    let at = slice_get_read c.args.zone.now.transitions.now _ end change refl
    (omega (arith, inside)) c.index-transitions-end.is in
    let same = (Decides-same_type c.type_of.result.now c.args.local_time_type.now).0
    (sym c.is_same.ensures ∙ c.if-is_same.true) in
    let type = type_after z end change c.args.local_time_type.now at (subst
    (λ (t : LocalTimeType). IsTypeAt z change.type_index t) same c.type_of.ensures) in
    record {
      from = omega (arith, c.loop-end.invariant.from);
      inside = inside;
      types = types_on z c.args.position end c.args.local_time_type.now c.loop-end.invariant.types type;
    }
