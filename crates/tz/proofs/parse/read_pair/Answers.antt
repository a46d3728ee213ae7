-- Two digits are their number.
use Rattle.tz.proofs.Common.{arith, inr, inl, ◌%◌, ◌/◌}
use Rattle.tz.proofs.TextFronts.{bytes_of_pair, pair_of_bytes}
use Rattle.tz.proofs.parse.read_pair.Goals as goal

pub returns-in_default : goal.returns-in_default
returns-in_default c n rest is = absurd (omega (arith, bytes_of_pair rest is, c.in_default.len_below))

pub returns-then-tens-ge10 : goal.returns-then-tens-ge10
returns-then-tens-ge10 c n rest is =
    let bytes = bytes_of_pair rest is in
    elim c.then-tens-ge10.either [
      | inl many ↦ omega (arith, many, c.value_of-tens.ensures.only (n / 10) (omega (arith, is.0)) bytes.1, is.0)
      | inr many ↦ omega (arith, many.1, c.value_of-ones.ensures.only (n % 10) (omega arith) bytes.2)
    ]

pub returns-then-number-least : goal.returns-then-number-least
returns-then-number-least c n rest is =
    let bytes = bytes_of_pair rest is in
    let tens = c.value_of-tens.ensures.only (n / 10) (omega (arith, is.0)) bytes.1 in
    let ones = c.value_of-ones.ensures.only (n % 10) (omega arith) bytes.2 in
    elim c.then-number-least.either [
      | inl few ↦ omega (arith, few, tens, ones, is.2)
      | inr many ↦ omega (arith, many.1, tens, ones, is.3)
    ]

pub returns : goal.returns
returns c =
    let tens = c.value_of-tens in
    let ones = c.value_of-ones in (
      omega (arith, c.if-tens-ge10.false, c.if-ones-ge10.false),
      pair_of_bytes c.args.text.now tens.result ones.result c.in-len2-up.len_at_least c.if-tens-ge10.false
          c.if-ones-ge10.false (tens.ensures.byte c.if-tens-ge10.false) (ones.ensures.byte c.if-ones-ge10.false),
      c.if-number-least.false,
      c.if-number-greatest.false,
    )
