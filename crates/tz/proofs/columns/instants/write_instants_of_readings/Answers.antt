-- Some indexes are answered by the stretch and then a block, after those before them.
use Rattle.tz.proofs.Common.{arith, ints, ◌≡◌, ◌≤◌, length, zone_of_data, Compatible}
use Rattle.tz.specs.InstantColumns.{HasNoInstantOfReading, HasNoneAt, HoldsInstantAt, IsInstantOfReading}
use Rattle.tz.proofs.ColumnAnswers.{and_then}
use Rattle.tz.proofs.ColumnInstants.{by_stretch, still_first_without}
use Rattle.tz.proofs.columns.instants.write_instants_of_readings.Goals as goal

pub write_in_stretch-from-requires-clause-small : goal.write_in_stretch-from-requires-clause-small
write_in_stretch-from-requires-clause-small g c r from last =
    let means = c.loop-index.invariant.0 r Compatible from last in
    (omega (arith, ints, means.0.0), omega (arith, ints, means.0.1))

pub loop-index-preserved : goal.loop-index-preserved
loop-index-preserved g c =
    let z = zone_of_data c.args.zone.now in
    let holding = g.S.InstantSlot.holding in
    let readings = c.args.readings.now in
    let choice = c.args.disambiguation in
    let before = c.loop-index.index in
    let from = c.write_in_stretch-from.result in
    let answer_at = HoldsInstantAt holding (IsInstantOfReading z choice) readings in
    let by = by_stretch holding z choice c.loop-index.stretch readings before from c.loop-index.slots
    c.write_in_stretch-from.new.slots c.loop-index.invariant.0 c.write_in_stretch-from.ensures.answered in
    let so_far = and_then answer_at c.args.first before from c.args.slots.now c.loop-index.slots
    c.write_in_stretch-from.new.slots c.loop-index.invariant.1 c.write_in_stretch-from.ensures.from
    c.loop-index.invariant.3 by in
    let on : c.args.first ≤ from = omega (arith, c.loop-index.invariant.1, c.write_in_stretch-from.ensures.from) in
    let to : c.args.first ≤ c.block_end-end.result = omega (arith, on, c.block_end-end.ensures.above) in
    let past : from ≤ c.block_end-end.result = omega (arith, c.block_end-end.ensures.above) in (
      c.in-Ok.ensures.stretch,
      to,
      c.block_end-end.ensures.up_to,
      and_then answer_at c.args.first from c.block_end-end.result c.args.slots.now c.write_in_stretch-from.new.slots
          c.write_instants_of_block.new.slots on past so_far c.in-Ok.ensures.ok,
    )

pub returns-then-from-readings-clause-ok : goal.returns-then-from-readings-clause-ok
returns-then-from-readings-clause-ok g c =
    let z = zone_of_data c.args.zone.now in
    let holding = g.S.InstantSlot.holding in
    let readings = c.args.readings.now in
    let choice = c.args.disambiguation in
    let before = c.loop-index.index in
    let from = c.write_in_stretch-from.result in
    let answer_at = HoldsInstantAt holding (IsInstantOfReading z choice) readings in
    let by = by_stretch holding z choice c.loop-index.stretch readings before from c.loop-index.slots
    c.write_in_stretch-from.new.slots c.loop-index.invariant.0 c.write_in_stretch-from.ensures.answered in
    let so_far = and_then answer_at c.args.first before from c.args.slots.now c.loop-index.slots
    c.write_in_stretch-from.new.slots c.loop-index.invariant.1 c.write_in_stretch-from.ensures.from
    c.loop-index.invariant.3 by in
    let end : from ≡ length readings = omega (arith, c.if-from-readings.true) in
    rw end at so_far

pub returns-in-Err-clause-err : goal.returns-in-Err-clause-err
returns-in-Err-clause-err g c =
    let z = zone_of_data c.args.zone.now in
    let holding = g.S.InstantSlot.holding in
    let readings = c.args.readings.now in
    let choice = c.args.disambiguation in
    let before = c.loop-index.index in
    let from = c.write_in_stretch-from.result in
    let answer_at = HoldsInstantAt holding (IsInstantOfReading z choice) readings in
    let by = by_stretch holding z choice c.loop-index.stretch readings before from c.loop-index.slots
    c.write_in_stretch-from.new.slots c.loop-index.invariant.0 c.write_in_stretch-from.ensures.answered in
    let so_far = and_then answer_at c.args.first before from c.args.slots.now c.loop-index.slots
    c.write_in_stretch-from.new.slots c.loop-index.invariant.1 c.write_in_stretch-from.ensures.from
    c.loop-index.invariant.3 by in
    let on : c.args.first ≤ from = omega (arith, c.loop-index.invariant.1, c.write_in_stretch-from.ensures.from) in
    still_first_without answer_at (HasNoneAt (HasNoInstantOfReading z choice) readings) c.args.first from
    c.args.slots.now c.write_in_stretch-from.new.slots c.write_instants_of_block.new.slots c.in-Err.none on so_far
    c.in-Err.ensures.err

pub returns-clause-ok : goal.returns-clause-ok
returns-clause-ok g c =
    let end : c.loop-index.index ≡ length c.args.readings.now =
    omega (arith, c.loop-index.invariant.2, c.loop-index-test.false) in
    rw end at c.loop-index.invariant.3
