-- The type at the position before is that of the transition before it.
use Rattle.tz_zone.proofs.Common.{arith, ℕ, refl, sym, ◌∙◌, subst, zone_of_data, ◌-◌, LocalTimeType, slice_get_read, IsTypeOfLast, IsTypeAt, Decides-same_type}
use Rattle.tz_zone.proofs.PositionRuns.{type_after, types_back}
use Rattle.tz_zone.proofs.clock.changes.start_of_run.Goals as goal

pub type_of-requires : goal.type_of-requires
type_of-requires c =
    let change = c.index-transitions-start.result in
    let start = c.loop-start.start in
    let at = slice_get_read c.args.zone.now.transitions.now _ (start - 2) change refl
    (omega (arith, c.loop-start-test.true, c.loop-start.invariant.up_to, c.requires.position.1))
    c.index-transitions-start.is in
    (c.args.zone.now.sound.transitions_are (start - 2)).0 change at

pub loop-start-preserved : goal.loop-start-preserved
loop-start-preserved c =
    let z = zone_of_data c.args.zone.now in
    let start = c.loop-start.start in
    let t = c.args.local_time_type.now in
    let change = c.index-transitions-start.result in
    let at = slice_get_read c.args.zone.now.transitions.now _ (start - 2) change refl
    (omega (arith, c.loop-start-test.true, c.loop-start.invariant.up_to, c.requires.position.1))
    c.index-transitions-start.is in
    let same = (Decides-same_type c.type_of.result.now t).0 (sym c.is_same.ensures ∙ c.if-is_same.true) in
    let type = type_after z (start - 2) change t at (subst (λ (x : LocalTimeType). IsTypeAt z change.type_index x) same
    c.type_of.ensures) in
    record {
      some = omega (arith, c.loop-start-test.true);
      up_to = omega (arith, c.loop-start.invariant.up_to);
      types = types_back z start c.args.position t c.loop-start.invariant.types
          (subst (λ (k : ℕ). IsTypeOfLast z k t) (omega (arith, c.loop-start-test.true)) type);
    }
