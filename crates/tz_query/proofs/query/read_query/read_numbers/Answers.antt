-- Each number is one more, and where one is missing there are fewer.
use Rattle.tz_query.proofs.Common.{sym, subst, refl, arith, ◌≡◌, [], ap, ◌∙◌, length, rules, inl, to_z-of_z, inr, w64, ◌+◌, ◌<◌, take, ArePartsFront, take_all, IsNumberFront, length-take-le, nil_from_length, length-set}
use Rattle.std.proofs.lemmas.Grind.{take-set_at}
use Rattle.tz_query.proofs.AnswerLines.{some_left}
use Rattle.tz_query.proofs.NumberFronts.{parts_more, IfNone-anyway}
use Rattle.tz_query.proofs.LineFronts.{NoNumbers, line_of_parts, next_part, end_of_parts}
use Rattle.tz_query.proofs.query.read_query.read_numbers.Goals as goal

pub loop-position-preserved : goal.loop-position-preserved
loop-position-preserved g c =
    let bytes = c.args.bytes.now in
    let loop = c.loop-position in
    let position = loop.position in
    let rest = c.in_ok-numbers.field-0-1.now in
    let n = c.in_ok-numbers.field-0-0 in
    let within : position < length loop.numbers = omega (arith, loop.invariant.0, c.loop-position-test.true) in
    let parts = parts_more bytes (take position loop.numbers) loop.rest.now n rest loop.invariant.1
    (c.in_ok-number.number.now, c.in_ok-number.ensures, c.in_ok-numbers.ensures.some) in
    rw (to_z-of_z w64 n (search rules)) (
      length-set loop.numbers position n ∙ loop.invariant.0,
      subst (λ ns. ArePartsFront bytes ns rest)
          (sym (take-set_at loop.numbers position (position + 1) n refl within)) parts,
    )

pub returns-in_err-number-clause-none : goal.returns-in_err-number-clause-none
returns-in_err-number-clause-none g c =
    let loop = c.loop-position in
    let read = take loop.position loop.numbers in
    let long : length read ≡ loop.position =
    length-take-le loop.position loop.numbers (omega (arith, loop.invariant.0, c.loop-position-test.true)) in
    IfNone-anyway {P = NoNumbers g.row.N c.args.bytes.now} _ (λ line numbers rest many fit first are.
    let (n, beyond, fits, (after, spaced, front)) =
    next_part c.args.bytes.now line rest loop.rest.now read numbers loop.invariant.1
    (omega (arith, long, many, c.loop-position-test.true)) fit first are in
    c.in_err-number.ensures (after, spaced))

pub returns-in_err-numbers-clause-none : goal.returns-in_err-numbers-clause-none
returns-in_err-numbers-clause-none g c =
    let loop = c.loop-position in
    let read = take loop.position loop.numbers in
    let long : length read ≡ loop.position =
    length-take-le loop.position loop.numbers (omega (arith, loop.invariant.0, c.loop-position-test.true)) in
    IfNone-anyway {P = NoNumbers g.row.N c.args.bytes.now} _ (λ line numbers rest many fit first are.
    let (n, beyond, fits, (after, spaced, front)) =
    next_part c.args.bytes.now line rest loop.rest.now read numbers loop.invariant.1
    (omega (arith, long, many, c.loop-position-test.true)) fit first are in
    c.in_err-numbers.ensures.none n beyond fits
    (subst (λ bs. IsNumberFront bs n beyond) (cc (spaced, c.in_ok-number.ensures)) front))

pub returns-then-is_empty-clause-some : goal.returns-then-is_empty-clause-some
returns-then-is_empty-clause-some g c =
    let loop = c.loop-position in
    let rest = loop.rest.now in
    let empty : rest ≡ [] = nil_from_length rest (search rules) in
    let parts = subst (λ ns. ArePartsFront c.args.bytes.now ns rest)
    (take_all loop.position loop.numbers (omega (arith, loop.invariant.0, c.loop-position-test.false)))
    loop.invariant.1 in
    line_of_parts c.args.bytes.now loop.numbers rest rest parts (inr (empty, empty))

pub returns-in_err-after_byte-clause-none : goal.returns-in_err-after_byte-clause-none
returns-in_err-after_byte-clause-none g c =
    let loop = c.loop-position in
    let rest = loop.rest.now in
    let some : 0 < length rest = search some_left in
    let parts = subst (λ ns. ArePartsFront c.args.bytes.now ns rest)
    (take_all loop.position loop.numbers (omega (arith, loop.invariant.0, c.loop-position-test.false)))
    loop.invariant.1 in
    IfNone-anyway {P = NoNumbers g.row.N c.args.bytes.now} _ (λ line numbers rest' many fit first are.
    elim (end_of_parts c.args.bytes.now line rest' rest loop.numbers numbers parts (loop.invariant.0 ∙ sym many) first
    are) [
      | inl is ↦ c.in_err-after_byte.ensures (rest', is)
      | inr is ↦ omega (arith, some, ap length is.0)
    ])

pub returns-clause-some : goal.returns-clause-some
returns-clause-some g c =
    let loop = c.loop-position in
    let rest = loop.rest.now in
    let parts = subst (λ ns. ArePartsFront c.args.bytes.now ns rest)
    (take_all loop.position loop.numbers (omega (arith, loop.invariant.0, c.loop-position-test.false)))
    loop.invariant.1 in
    line_of_parts c.args.bytes.now loop.numbers rest c.in_ok-after_byte.field-0.now parts
    (inl c.in_ok-after_byte.ensures)
