-- A place in the block is a position in the list.
use Rattle.tz_zone.proofs.Common.{arith, to_z-of_z, w64, refl, list_of}
use Rattle.tz_zone.proofs.Chunks.{among_places, among_positions, chunk_rises, length_is}
use Rattle.tz_zone.proofs.clock.binary_search.position_in_block.Goals as goal

pub place_in_block-requires-clause-rising : goal.place_in_block-requires-clause-rising
place_in_block-requires-clause-rising c =
    chunk_rises (list_of c.args.view.now) c.args.position 128 c.in-Some.block.now c.in-Some.ensures c.requires.rising

pub place_in_block-requires-clause-among : goal.place_in_block-requires-clause-among
place_in_block-requires-clause-among c =
    rw (to_z-of_z w64 c.args.unix_leap_time c.ranges.unix_leap_time)
    (among_places (list_of c.args.view.now) c.args.position 128 c.in-Some.block.now c.in-Some.ensures
    c.args.unix_leap_time (omega arith) c.requires.among)

pub overflow_add-result : goal.overflow_add-result
overflow_add-result c =
    let some = c.in-Some in
    let whole = length_is (list_of c.args.view.now) c.args.position 128 some.block.now some.ensures in
    omega (arith, c.place_in_block.ensures, some.ensures, c.args.view.now.fits, whole)

pub returns-in-Some-clause-among : goal.returns-in-Some-clause-among
returns-in-Some-clause-among c =
    among_positions (list_of c.args.view.now) c.args.position 128 c.in-Some.block.now c.in-Some.ensures
    c.args.unix_leap_time (omega arith) c.requires.among c.place_in_block.result
    (rw (to_z-of_z w64 c.args.unix_leap_time c.ranges.unix_leap_time) at c.place_in_block.ensures)

pub halved-requires-clause-powers : goal.halved-requires-clause-powers
halved-requires-clause-powers c = (7, 0, refl, refl, omega arith)

pub returns-clause-looks : goal.returns-clause-looks
returns-clause-looks c = c.halved.ensures.looks 7 0 refl refl (omega arith)
