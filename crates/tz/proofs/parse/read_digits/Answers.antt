-- Each digit is one more.
use Rattle.tz.proofs.Common.{arith, digits_more, digits_value_more}
use Rattle.tz.proofs.parse.read_digits.Goals as goal

pub loop-position-preserved : goal.loop-position-preserved
loop-position-preserved c =
    let bs = c.args.text.now in
    let loop = c.loop-position in
    let (digit, value) = c.value_of-digit.ensures.digit (omega arith) in (
      digits_more 10 bs loop.position (omega arith) loop.invariant.0
          digit,
      omega (
        arith,
        digits_value_more 10 bs loop.position
            (omega arith),
        value,
        loop.invariant.1,
        c.min.ensures,
        c.from.ensures,
      ),
    )
