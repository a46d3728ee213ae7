-- A value that goes on after a number is none.
use Rattle.tz_query.proofs.Common.{arith}
use Rattle.tz_query.proofs.NumberFronts.{no_number_before_more}
use Rattle.tz_query.proofs.query.program.read_offset.Goals as goal

pub returns-in_default-clause-none : goal.returns-in_default-clause-none
returns-in_default-clause-none c =
    let (number, rest) = c.in_ok-number.field-0 in
    λ offset fits. no_number_before_more c.args.value.now rest.now number
    (rw c.as_bytes.ensures.value at c.in_ok-number.ensures.some) (omega arith) offset
