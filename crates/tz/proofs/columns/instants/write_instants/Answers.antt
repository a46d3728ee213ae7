-- Each turn answers one index more.
use Rattle.tz.proofs.Common.{arith, ◌≡◌, ◌∙◌, rules, to_z-of_z, w64, SFits, ◌<◌, length, zone_of_data}
use Rattle.std.proofs.lemmas.Option.{get_or_from_slice_get}
use Rattle.tz.specs.InstantColumns.{HoldsInstantAt, IsInstantOf}
use Rattle.tz.proofs.ColumnAnswers.{one_more}
use Rattle.tz.proofs.columns.instants.write_instants.Goals as goal

pub loop-i-preserved : goal.loop-i-preserved
loop-i-preserved g c =
    let local = c.args.local.now in
    let i = c.loop-i.i in
    let u = c.in-Ok.unix_time in
    let answer_at = HoldsInstantAt g.S.InstantSlot.holding
    (λ x. IsInstantOf (zone_of_data c.args.zone.now) c.args.disambiguation (g.L.LocalTime.fields x)) local in
    let fits : SFits w64 u = search rules in
    let holds : c.set.new.self ≡ g.S.InstantSlot.holding u = rw (to_z-of_z w64 u fits) at c.set.ensures in
    let answer : answer_at i c.set.new.self = λ x at.
    let same = c.index-local-i.is ∙ get_or_from_slice_get local i x c.index-local-i.result at in
    (u, rw same at c.in-Ok.ensures.ok, holds) in
    let within : i < length c.loop-i.slots =
    omega (arith, c.loop-i.invariant.length_is, c.requires.lengths, c.loop-i-test.true) in
    one_more answer_at c.args.first i c.args.slots.now c.loop-i.slots c.set.new.self
    (omega (arith, c.loop-i.auto.i)) within answer c.loop-i.invariant

pub returns-in-Err-clause-err : goal.returns-in-Err-clause-err
returns-in-Err-clause-err g c =
    let local = c.args.local.now in
    let i = c.loop-i.i in
    record {
      within = (
        omega (arith, c.loop-i.auto.i),
        omega (arith, c.requires.lengths, c.loop-i-test.true),
      );
      none = λ x at.
          let same = c.index-local-i.is ∙ get_or_from_slice_get local i x c.index-local-i.result at in
          rw same at c.in-Err.ensures.err;
      up_to = c.loop-i.invariant;
    }

pub returns-clause-ok : goal.returns-clause-ok
returns-clause-ok g c =
    let end : c.loop-i.i ≡ length c.args.local.now =
    omega (arith, c.loop-i.auto.i, c.loop-i-test.false, c.requires.first) in
    rw end at c.loop-i.invariant
