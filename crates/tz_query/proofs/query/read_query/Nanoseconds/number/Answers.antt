-- The digits are all nine.
use Rattle.tz_query.proofs.Common.{arith, number_of}
use Rattle.tz_query.proofs.NineDigits.{value_of_nine}
use Rattle.tz_query.proofs.query.read_query.Nanoseconds.number.Goals as goal

pub returns : goal.returns
returns c =
    let read = c.read_digits-number in
    let nanoseconds = c.args.self.now in
    value_of_nine (number_of nanoseconds) nanoseconds.below nanoseconds.digits nanoseconds.nine read.result.0
    read.result.1 read.ensures.end read.ensures.value

pub overflow_cast-result : goal.overflow_cast-result
overflow_cast-result c = record { fits = omega (arith, c.args.self.now.below, returns c) }
