-- Each turn answers one index more.
use Rattle.tz.proofs.Common.{arith, ◌≡◌, rules, to_z-of_z, w64, SFits, pos, ◌<◌, length, slice_index_or, zone_of_data}
use Rattle.std.proofs.lemmas.Option.{get_or_from_slice_get}
use Rattle.tz.specs.InstantColumns.{HoldsInstantAt, IsInstantOfReading}
use Rattle.tz.proofs.ColumnAnswers.{one_more}
use Rattle.tz.proofs.columns.instants.write_instants_of_block.Goals as goal

pub loop-i-preserved : goal.loop-i-preserved
loop-i-preserved g c =
    let readings = c.args.readings.now in
    let i = c.loop-i.i in
    let u = c.in-Ok.unix_time in
    let answer_at = HoldsInstantAt g.S.InstantSlot.holding
    (IsInstantOfReading (zone_of_data c.args.zone.now) c.args.disambiguation) readings in
    let reading_fits : SFits w64 (slice_index_or readings i (pos 0)) = search rules in
    let fits : SFits w64 u = search rules in
    let holds : c.set.new.self ≡ g.S.InstantSlot.holding u = rw (to_z-of_z w64 u fits) at c.set.ensures in
    let answer : answer_at i c.set.new.self = λ x at.
    let read : slice_index_or readings i (pos 0) ≡ x = get_or_from_slice_get readings i x (pos 0) at in
    (u, rw (to_z-of_z w64 (slice_index_or readings i (pos 0)) reading_fits, read) at c.in-Ok.ensures.ok, holds) in
    let within : i < length c.loop-i.slots =
    omega (arith, c.loop-i.invariant.1.length_is, c.requires.lengths, c.requires.block, c.loop-i-test.true) in (
      c.stretch_near-last.ensures,
      one_more answer_at c.args.index i c.args.slots.now c.loop-i.slots c.set.new.self
          (omega (arith, c.loop-i.auto.i)) within answer c.loop-i.invariant.1,
    )

pub returns-in-Err-clause-err : goal.returns-in-Err-clause-err
returns-in-Err-clause-err g c =
    let readings = c.args.readings.now in
    let i = c.loop-i.i in
    let fits : SFits w64 (slice_index_or readings i (pos 0)) = search rules in
    record {
      within = (
        omega (arith, c.loop-i.auto.i),
        omega (arith, c.requires.lengths, c.requires.block, c.loop-i-test.true),
      );
      none = λ x at.
          let read : slice_index_or readings i (pos 0) ≡ x = get_or_from_slice_get readings i x (pos 0) at in
          rw (to_z-of_z w64 (slice_index_or readings i (pos 0)) fits, read) at c.in-Err.ensures.err;
      up_to = c.loop-i.invariant.1;
    }

pub returns-clause-ok : goal.returns-clause-ok
returns-clause-ok g c =
    let end : c.loop-i.i ≡ c.args.end = omega (arith, c.loop-i.auto.i, c.loop-i-test.false, c.requires.block) in
    rw end at c.loop-i.invariant.1
