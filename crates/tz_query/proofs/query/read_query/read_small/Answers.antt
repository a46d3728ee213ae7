-- One digit or two stand before a space.
use Rattle.tz_query.proofs.Common.{refl, arith, ◌≡◌, [], ap, ◌∷◌, ◌∙◌, ◌+◌, drop, get_or, ◌*◌}
use Rattle.tz_query.proofs.FastNumbers.{byte_at, front_before_space}
use Rattle.tz_query.proofs.query.read_query.read_small.Goals as goal

pub returns-then-bytes-position-eq32-clause-number : goal.returns-then-bytes-position-eq32-clause-number
returns-then-bytes-position-eq32-clause-number c =
    let bs = c.args.bytes.now in
    let position = c.args.position in
    let b = get_or bs position 0 in
    let digit = c.value_of-first.ensures.digit c.if-first-ge10.false in
    let whole = byte_at bs position b (omega (arith, c.requires)) refl in
    let space = byte_at bs (position + 1) 32 (omega (arith, c.requires)) c.if-bytes-position-eq32.true in
    front_before_space (b ∷ []) (drop position bs) (drop (position + 1) bs) (drop (position + 1 + 1) bs) (digit.0, tt)
    (omega arith) whole space c.value_of-first.result (omega (arith, digit.1))

pub returns-clause-number : goal.returns-clause-number
returns-clause-number c =
    let bs = c.args.bytes.now in
    let position = c.args.position in
    let a = get_or bs position 0 in
    let b = get_or bs (position + 1) 0 in
    let first = c.value_of-first.ensures.digit c.if-first-ge10.false in
    let second = c.value_of-second.ensures.digit c.if-second-ge10.false in
    let next : position + 1 + 1 ≡ position + 2 = omega arith in
    let whole = byte_at bs position a (omega (arith, c.requires)) refl
    ∙ ap (λ xs. a ∷ xs) (byte_at bs (position + 1) b (omega (arith, c.requires)) refl
    ∙ ap (λ n. b ∷ drop n bs) next) in
    let space = byte_at bs (position + 2) 32 (omega (arith, c.requires)) c.if-bytes-position-ne32.false in
    front_before_space (a ∷ b ∷ []) (drop position bs) (drop (position + 2) bs) (drop (position + 2 + 1) bs)
    (first.0, (second.0, tt)) (omega arith) whole space (c.value_of-first.result * 10 + c.value_of-second.result)
    (omega (arith, first.1, second.1))
