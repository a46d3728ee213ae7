-- A plain number, or one with a minus.
use Rattle.tz_query.proofs.Common.{rules, subst, arith, ◌≡◌, ap, ◌∷◌, ◌∙◌, ◌+◌, drop, ints, IsPartFront}
use Rattle.tz_query.proofs.FastNumbers.{byte_at, plain_part, minus_part}
use Rattle.tz_query.proofs.query.read_query.read_usual_number.Goals as goal

pub returns-then-bytes-position-eq45 : goal.returns-then-bytes-position-eq45
returns-then-bytes-position-eq45 c =
    let bs = c.args.bytes.now in
    let position = c.args.position in
    let read = c.in_ok-size.ensures.number in
    let space : drop position bs ≡ 32 ∷ 45 ∷ drop (position + 2) bs =
    byte_at bs position 32 (omega (arith, c.requires)) c.if-bytes-position-ne32.false
    ∙ ap (λ xs. 32 ∷ xs) (byte_at bs (position + 1) 45 (omega (arith, c.requires)) c.if-bytes-position-eq45.true
    ∙ ap (λ n. 45 ∷ drop n bs) (omega arith)) in
    let part = minus_part (drop (position + 2) bs) read.0 (drop c.in_ok-size.end bs) read.1 read.2
    (drop position bs) space in
    record {
      number = subst (λ n. IsPartFront (drop position bs) n (drop c.in_ok-size.end bs))
          (omega (arith, ints, read.3, c.in_ok-size.ensures.bound.0)) part;
      bound = omega (arith, ints, c.in_ok-size.ensures.bound.0);
      end = search rules;
    }

pub returns-clause-number : goal.returns-clause-number
returns-clause-number c =
    let bs = c.args.bytes.now in
    let position = c.args.position in
    let read = c.in_ok-size-2.ensures.number in
    let part = plain_part (drop (position + 1) bs) read.0 (drop c.in_ok-size-2.end bs) read.1 read.2 (drop position bs)
    (byte_at bs position 32 (omega (arith, c.requires)) c.if-bytes-position-ne32.false) in
    subst (λ n. IsPartFront (drop position bs) n (drop c.in_ok-size-2.end bs))
    (omega (arith, ints, read.3, c.in_ok-size-2.ensures.bound.0)) part

pub overflow_sub-result : goal.overflow_sub-result
overflow_sub-result c = omega (arith, ints, c.in_ok-size.ensures.bound.0)

pub returns-clause-bound : goal.returns-clause-bound
returns-clause-bound c = omega (arith, ints, c.in_ok-size-2.ensures.bound.0)
