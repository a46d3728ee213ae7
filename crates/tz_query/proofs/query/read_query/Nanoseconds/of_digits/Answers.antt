-- The digits of a number are those of their value.
use Rattle.tz_query.proofs.NineDigits.{nine_of_their_value, value_of_nine_digits}
use Rattle.tz_query.proofs.query.read_query.Nanoseconds.of_digits.Goals as goal

pub invariant_of-result : goal.invariant_of-result
invariant_of-result c =
    let (n, few, is) = c.requires in
    let digits = nine_of_their_value n few c.args.digits is in
    record { below = digits.0; nine = digits.1 }

pub returns : goal.returns
returns c n few is = value_of_nine_digits n few c.args.digits is
