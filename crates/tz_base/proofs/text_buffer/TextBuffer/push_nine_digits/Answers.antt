-- One digit and four pairs.
use Rattle.std.proofs.Common.{arith, refl, ◌≡◌, subst, ◌∙◌, sym, [], ◌∷◌, ◌+◌, ◌%◌, ◌/◌, IsAscii, slice_index_or}
use Rattle.tz_base.specs.PrintedText.{nine_digits}
use Rattle.tz_base.proofs.PrintedDigits.{nine_digits-ascii, nine_digits-pairs, two_digits-below}
use Rattle.tz_base.proofs.text_buffer.TextBuffer.push_nine_digits.Goals as goal

pub push_ascii-requires-clause-ascii : goal.push_ascii-requires-clause-ascii
push_ascii-requires-clause-ascii c =
    let n = c.args.number in
    let second = two_digits-below (n / 10000 % 10000 / 100) (omega arith) in
    let third = two_digits-below (n / 10000 % 100) (omega arith) in
    let fourth = two_digits-below (n % 10000 / 100) (omega arith) in
    let fifth = two_digits-below (n % 10000 % 100) (omega arith) in
    let bytes : (48 + n / 10000 / 10000) ∷ slice_index_or c.pair_of-second.result 0 0
    ∷ slice_index_or c.pair_of-second.result 1 0 ∷ slice_index_or c.pair_of-third.result 0 0
    ∷ slice_index_or c.pair_of-third.result 1 0
    ∷ slice_index_or c.pair_of-fourth.result 0 0 ∷ slice_index_or c.pair_of-fourth.result 1 0
    ∷ slice_index_or c.pair_of-fifth.result 0 0 ∷ slice_index_or c.pair_of-fifth.result 1 0 ∷ [] ≡ nine_digits n =
    rw (
      c.pair_of-second.ensures ∙ second,
      c.pair_of-third.ensures ∙ third,
      c.pair_of-fourth.ensures
          ∙ fourth,
      c.pair_of-fifth.ensures ∙ fifth,
      nine_digits-pairs n c.requires.below,
      second,
      third,
      fourth,
      fifth,
    )
    refl in
    subst IsAscii (sym bytes) (nine_digits-ascii n c.requires.below)

pub returns-clause-text : goal.returns-clause-text
returns-clause-text c =
    let n = c.args.number in
    let second = two_digits-below (n / 10000 % 10000 / 100) (omega arith) in
    let third = two_digits-below (n / 10000 % 100) (omega arith) in
    let fourth = two_digits-below (n % 10000 / 100) (omega arith) in
    let fifth = two_digits-below (n % 10000 % 100) (omega arith) in
    rw (
      c.push_ascii.ensures.text,
      c.pair_of-second.ensures ∙ second,
      c.pair_of-third.ensures ∙ third,
      c.pair_of-fourth.ensures ∙ fourth,
      c.pair_of-fifth.ensures ∙ fifth,
      nine_digits-pairs n c.requires.below,
      second,
      third,
      fourth,
      fifth,
    )
    refl
