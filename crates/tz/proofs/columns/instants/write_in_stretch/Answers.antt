-- Each turn answers one index more.
use Rattle.tz.proofs.Common.{arith, ◌≡◌, ints, rules, to_z-of_z, w64, w32, SFits, pos, ◌<◌, ◌≤ℤ◌, ◌-ℤ◌, length, slice_index_or}
use Rattle.std.proofs.lemmas.Option.{get_or_from_slice_get}
use Rattle.tz.specs.InstantColumns.{HoldsInstantAt, IsShownIn}
use Rattle.tz.proofs.ColumnAnswers.{one_more}
use Rattle.tz.proofs.columns.instants.write_in_stretch.Goals as goal

pub shown_by-requires : goal.shown_by-requires
shown_by-requires g c =
    let r = slice_index_or c.args.readings.now c.loop-i.i (pos 0) in
    let fits : SFits w64 r = search rules in
    let small = c.requires.small r
    (omega (
      arith,
      ints,
      c.if-reading-stretch.false,
      to_z-of_z w64 r fits,
      to_z-of_z w64 c.args.stretch.from (search rules),
    ))
    (omega (
      arith,
      ints,
      c.if-stretch-reading.false,
      to_z-of_z w64 r fits,
      to_z-of_z w64 c.args.stretch.last (search rules),
    )) in
    (omega (arith, ints, to_z-of_z w64 r fits, small.0), omega (arith, ints, to_z-of_z w64 r fits, small.1))

pub loop-i-preserved : goal.loop-i-preserved
loop-i-preserved g c =
    let readings = c.args.readings.now in
    let i = c.loop-i.i in
    let s = c.args.stretch in
    let r = slice_index_or readings i (pos 0) in
    let u = c.shown_by.result in
    let answer_at = HoldsInstantAt g.S.InstantSlot.holding (IsShownIn s) readings in
    let reading_fits : SFits w64 r = search rules in
    let fits : SFits w64 u = search rules in
    let reading_is = to_z-of_z w64 r reading_fits in
    let from : s.from ≤ℤ r =
    omega (arith, ints, c.if-reading-stretch.false, reading_is, to_z-of_z w64 s.from (search rules)) in
    let last : r ≤ℤ s.last =
    omega (arith, ints, c.if-stretch-reading.false, reading_is, to_z-of_z w64 s.last (search rules)) in
    let shown : u ≡ r -ℤ s.offset =
    omega (arith, ints, c.shown_by.ensures, reading_is, to_z-of_z w32 s.offset (search rules)) in
    let holds : c.set.new.self ≡ g.S.InstantSlot.holding u = rw (to_z-of_z w64 u fits) at c.set.ensures in
    let answer : answer_at i c.set.new.self = λ x at.
    let read : r ≡ x = get_or_from_slice_get readings i x (pos 0) at in
    (u, (rw read at from, rw read at last, rw read at shown), holds) in
    let within : i < length c.loop-i.slots =
    omega (arith, c.loop-i.invariant.length_is, c.requires.lengths, c.loop-i-test.true) in
    one_more answer_at c.args.index i c.args.slots.now c.loop-i.slots c.set.new.self
    (omega (arith, c.loop-i.auto.i)) within answer c.loop-i.invariant

pub returns-clause-answered : goal.returns-clause-answered
returns-clause-answered g c =
    let end : c.loop-i.i ≡ length c.args.readings.now =
    omega (arith, c.loop-i.auto.i, c.loop-i-test.false, c.requires.index) in
    rw end at c.loop-i.invariant
