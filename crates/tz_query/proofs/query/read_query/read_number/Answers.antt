-- Digits, or a minus and digits, are the number, if it is one of 64 bits.
use Rattle.tz_query.proofs.Common.{sym, subst, arith, ◌≡◌, length, rules, to_z-of_z, ◌<◌, take, drop, pos, ints, SFits, take_rest, digits_value, EndsDigits, FitsSigned, IsNumberFront, length-take-le, neg_ℤ}
use Rattle.std.specs.Int.{w64}
use Rattle.tz_query.proofs.NumberFronts.{plain_number, minus_number, no_number, NoNumber, no_other_number, IfNone-anyway}
use Rattle.tz_query.proofs.query.read_query.read_number.Goals as goal

pub returns-in_err-checked_add_unsigned-clause-none : goal.returns-in_err-checked_add_unsigned-clause-none
returns-in_err-checked_add_unsigned-clause-none c =
    let bytes = c.args.bytes.now in
    let read = c.read_digits-size in
    let count = read.result.1 in
    let number = plain_number bytes (take count bytes) (drop count bytes) read.ensures.digits
    (omega (arith, c.if-count-gt0.true, length-take-le count bytes read.ensures.count)) in
    IfNone-anyway {P = NoNumber bytes} _ (no_other_number bytes (drop count bytes) _ number
    (λ fits. c.in_err-checked_add_unsigned.ensures
    (subst (FitsSigned w64) (omega (arith, ints, fits, read.ensures.size)) fits)))

pub returns-in_err-digits-clause-none : goal.returns-in_err-digits-clause-none
returns-in_err-digits-clause-none c =
    let bytes = c.args.bytes.now in
    let read = c.read_digits-size in
    let none : read.result.1 ≡ 0 = omega (arith, c.if-count-gt0.false) in
    let ends = subst (λ n. EndsDigits (drop n bytes)) none read.ensures.digits.ends in
    IfNone-anyway {P = NoNumber bytes} _ (λ n rest fits. no_number bytes ends
    (λ after minus. absurd (c.in_err-digits.ensures (after, minus))) n rest)

pub returns-then-count-eq0-clause-none : goal.returns-then-count-eq0-clause-none
returns-then-count-eq0-clause-none c n rest fits =
    let bytes = c.args.bytes.now in
    let beyond = c.in_ok-digits.digits.now in
    let none : c.read_digits-size.result.1 ≡ 0 = omega (arith, c.if-count-gt0.false) in
    let ends = subst (λ n. EndsDigits (drop n bytes)) none c.read_digits-size.ensures.digits.ends in
    let ends' = subst (λ n. EndsDigits (drop n beyond)) c.if-count-eq0.true c.read_digits-size-2.ensures.digits.ends in
    no_number bytes ends (λ after minus. let same : beyond ≡ after = cc (minus, c.in_ok-digits.ensures) in
    subst EndsDigits same ends') n rest

pub returns-in_err-checked_sub_unsigned-clause-none : goal.returns-in_err-checked_sub_unsigned-clause-none
returns-in_err-checked_sub_unsigned-clause-none c =
    let bytes = c.args.bytes.now in
    let beyond = c.in_ok-digits.digits.now in
    let read = c.read_digits-size-2 in
    let count = read.result.1 in
    let some : 0 < length (take count beyond) =
    omega (arith, c.if-count-eq0.false, length-take-le count beyond read.ensures.count) in
    let number = minus_number bytes beyond (take count beyond) (drop count beyond) c.in_ok-digits.ensures
    read.ensures.digits some in
    IfNone-anyway {P = NoNumber bytes} _ (no_other_number bytes (drop count beyond) _ number
    (λ fits. c.in_err-checked_sub_unsigned.ensures
    (subst (FitsSigned w64) (omega (arith, ints, fits, read.ensures.size)) fits)))

pub returns-2-clause-some : goal.returns-2-clause-some
returns-2-clause-some c =
    let bytes = c.args.bytes.now in
    let beyond = c.in_ok-digits.digits.now in
    let read = c.read_digits-size-2 in
    let count = read.result.1 in
    let n = c.in_ok-checked_sub_unsigned.field-0 in
    let fits : SFits w64 n = search rules in
    let value : neg_ℤ (pos (digits_value 10 (take count beyond))) ≡ n =
    omega (arith, ints, fits, read.ensures.size, c.in_ok-checked_sub_unsigned.ensures.1) in
    let some : 0 < length (take count beyond) =
    omega (arith, c.if-count-eq0.false, length-take-le count beyond read.ensures.count) in
    let number = minus_number bytes beyond (take count beyond) (drop count beyond) c.in_ok-digits.ensures
    read.ensures.digits some in
    rw (to_z-of_z w64 n fits) (subst (IsNumberFront bytes n) (sym (take_rest beyond count))
    (subst (λ m. IsNumberFront bytes m (drop count beyond)) value number))
