-- The digits are these alone.
use Rattle.tz.proofs.Common.{arith, inr, inl, ap, length, digits_value, length-take}
use Rattle.tz.proofs.TextFronts.{digits_unique}
use Rattle.tz.proofs.parse.read_hours.Goals as goal

pub returns-then-count-lt2 : goal.returns-then-count-lt2
returns-then-count-lt2 c hours rest (digits, front, some, value, below) =
    let read = c.read_digits-size in
    let same = digits_unique front read.ensures.digits in
    elim c.then-count-lt2.either [
      | inl few ↦ omega (arith, few, some, ap length same.0, length-take read.result.1 c.args.text.now)
      | inr many ↦ omega (arith, many.1, value, below, ap (digits_value 10) same.0, read.ensures.size)
    ]
