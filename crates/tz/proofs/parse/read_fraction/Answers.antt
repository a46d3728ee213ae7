-- One to nine digits, padded with zeros to nine.
use Rattle.tz.proofs.Common.{arith, inr, inl, length, ◌-◌, drop, take, length-drop, length-take, take_all}
use Rattle.tz.proofs.TextFronts.{fraction_read, no_fraction}
use Rattle.tz.proofs.parse.read_fraction.Goals as goal

pub returns-then-count-eq0-clause-fraction : goal.returns-then-count-eq0-clause-fraction
returns-then-count-eq0-clause-fraction c =
    let digits = c.in-Some.digits.now in
    let read = c.read_digits-size in
    no_fraction c.args.text.now digits (take read.result.1 digits) (drop read.result.1 digits) c.in-Some.ensures
    read.ensures.digits (λ some. elim c.then-count-eq0.either [
      | inl none ↦ omega (arith, none, some.0, length-take read.result.1 digits)
      | inr many ↦ omega (arith, many.1, some.1, length-take read.result.1 digits, read.ensures.count)
    ])

pub overflow_cast-result : goal.overflow_cast-result
overflow_cast-result c =
    let read = fraction_read c.in-Some.digits.now c.read_digits-size.result.0 c.read_digits-size.result.1
    c.pow-padding.result c.pow-padding.ensures c.read_digits-size.ensures.digits c.read_digits-size.ensures.count
    c.if-count-eq0.false c.if-count-gt9.false c.read_digits-size.ensures.size in
    record { fits = omega (arith, read.fits) }

pub overflow_mul-result : goal.overflow_mul-result
overflow_mul-result c =
    let read = fraction_read c.in-Some.digits.now c.read_digits-size.result.0 c.read_digits-size.result.1
    c.pow-padding.result c.pow-padding.ensures c.read_digits-size.ensures.digits c.read_digits-size.ensures.count
    c.if-count-eq0.false c.if-count-gt9.false c.read_digits-size.ensures.size in
    record { fits = omega (arith, read.below) }

pub returns : goal.returns
returns c =
    let read = fraction_read c.in-Some.digits.now c.read_digits-size.result.0 c.read_digits-size.result.1
    c.pow-padding.result c.pow-padding.ensures c.read_digits-size.ensures.digits c.read_digits-size.ensures.count
    c.if-count-eq0.false c.if-count-gt9.false c.read_digits-size.ensures.size in
    let count = c.read_digits-size.result.1 in
    let digits = c.in-Some.digits.now in
    let all = take_all (length digits - count) (drop count digits) (omega (arith, length-drop count digits)) in
    record {
      fraction = rw all (inr (
        digits,
        take count digits,
        c.in-Some.ensures,
        c.read_digits-size.ensures.digits,
        omega (arith, read.long, c.if-count-eq0.false),
        omega (arith, read.long, c.if-count-gt9.false),
        read.scaled,
      ));
      below = read.below;
    }
