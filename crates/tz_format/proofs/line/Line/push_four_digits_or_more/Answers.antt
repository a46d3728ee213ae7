-- Four digits are two and two.
use Rattle.std.proofs.Common.{arith, refl, ◌∙◌, ◌≡◌, ◌/◌, ◌%◌, true}
use Rattle.std.specs.Prelude.{nat_lt}
use Rattle.std.proofs.lemmas.Bool.{lt-ltb}
use Rattle.tz.proofs.PrintedDigits.{two_digits-below}
use Rattle.tz_format.specs.Texts.{four_digits_or_more}
use Rattle.tz_format.proofs.Digits.{four_digits_are}
use Rattle.tz_format.proofs.line.Line.push_four_digits_or_more.Goals as goal

pub returns-then-number-lt10000-clause-text : goal.returns-then-number-lt10000-clause-text
unfolding four_digits_or_more
returns-then-number-lt10000-clause-text c =
    let n = c.args.number in
    let below : nat_lt n 10000 ≡ true = lt-ltb n 10000 c.if-number-lt10000.true in
    let same : n / 100 % 100 ≡ n / 100 = omega arith in
    let front = two_digits-below (n / 100) (omega arith) in
    let back = two_digits-below (n % 100) (omega arith) in
    rw (
      c.push_all.ensures.text,
      c.pair_of-front.ensures ∙ front,
      c.pair_of-back.ensures ∙ back,
      below,
      four_digits_are n,
      same,
      front,
      back,
    ) refl
