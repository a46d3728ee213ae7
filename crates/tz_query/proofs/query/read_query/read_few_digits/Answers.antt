-- The digits are those up to the position that was read to.
use Rattle.tz_query.proofs.Common.{refl, arith, ◌+◌, ◌<◌, ◌≤◌}
use Rattle.tz_query.proofs.FastNumbers.{number_at, byte_at, few_in_window, end_before, value_in_window}
use Rattle.tz_query.proofs.query.read_query.read_few_digits.Goals as goal

pub returns-then-bytes-position-eq32 : goal.returns-then-bytes-position-eq32
returns-then-bytes-position-eq32 c =
    let bs = c.args.bytes.now in
    let position = c.args.position in
    let read = c.read_digits-count in
    let k = read.result.0 in
    let few : k ≤ 11 = few_in_window bs position 11 k read.ensures.end (omega (arith, c.requires)) in
    let end_is = end_before bs position 11 k read.ensures.end 32 (omega (arith, c.requires)) refl
    (byte_at bs (position + k) 32 (omega (arith, few, c.requires)) c.if-bytes-position-eq32.true) in
    let value_is = value_in_window bs position 11 k read.ensures.end few read.result.1 read.ensures.value in
    let (number, below) = number_at bs position (position + k) (omega (arith, c.requires)) end_is read.result.1
    (omega (arith, c.if-count-eq0.false)) (omega (arith, few)) value_is in
    record { number = number; bound = (below, omega (arith, few), omega (arith, few, c.requires)) }

pub returns : goal.returns
returns c =
    let read = c.read_digits-end in
    let some : c.args.position < read.result.0 = omega (arith, read.ensures.end, c.if-end-position.false) in
    let (number, below) = number_at c.args.bytes.now c.args.position read.result.0 (omega (arith, c.requires))
    read.ensures.end read.result.1 some c.if-end-position-2.false read.ensures.value in
    record { number = number; bound = (below, c.if-end-position-2.false, read.ensures.within) }
