-- The first digit, and then two at a time.
use Rattle.tz.proofs.Common.{arith, ◌≡◌, ◌∙◌, ap, ◌∷◌, ◌<◌, ◌+◌, ◌++◌, ◌*◌, ◌%◌, two_digits, drop}
use Rattle.tz.proofs.PrintedBytes.{byte_at, nine_from_pairs}
use Rattle.tz.proofs.parse.nanoseconds_at.Goals as goal

pub returns : goal.returns
returns c =
    let text = c.args.text.now in
    let a = c.pair_at.ensures (c.requires.digits.1) (c.requires.digits.2) in
    let b = c.pair_at-2.ensures (c.requires.digits.3) (c.requires.digits.4) in
    let d = c.pair_at-3.ensures (c.requires.digits.5) (c.requires.digits.6) in
    let e = c.pair_at-4.ensures (c.requires.digits.7) (c.requires.digits.8) in
    let first = c.requires.digits.0 in
    let few : c.from-first.result < 10 = omega (arith, first, c.from-first.ensures) in
    let n = (c.from-first.result * 100000000 % 4294967296
    + (1000000 * c.from-millions.result + 10000 * c.from-ten_thousands.result + 100 * c.from-hundreds.result
    + c.from-ones.result)) % 4294967296 in
    let is : n ≡ 100000000 * c.from-first.result + (1000000 * c.pair_at.result + 10000 * c.pair_at-2.result
    + 100 * c.pair_at-3.result + c.pair_at-4.result) =
    omega (
      arith,
      few,
      a.0,
      b.0,
      d.0,
      e.0,
      c.from-millions.ensures,
      c.from-ten_thousands.ensures,
      c.from-hundreds.ensures,
      c.from-ones.ensures,
    ) in (
      omega (arith, is, few, a.0, b.0, d.0, e.0),
      byte_at text 20 (omega (arith, c.requires.within)) ∙ ap (λ b. b ∷ drop 21 text)
          (omega (arith, first, c.from-first.ensures))
          ∙ ap (λ r. (48 + c.from-first.result) ∷ r) (a.1 ∙ ap (λ r. two_digits c.pair_at.result ++ r)
          (b.1 ∙ ap (λ r. two_digits c.pair_at-2.result ++ r) (d.1 ∙ ap (λ r. two_digits c.pair_at-3.result ++ r) e.1)))
          ∙ nine_from_pairs c.from-first.result c.pair_at.result c.pair_at-2.result c.pair_at-3.result
          c.pair_at-4.result n (drop 29 text) few a.0 b.0 d.0 e.0 is,
    )
