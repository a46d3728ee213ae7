-- Below 100 hours the two pairs are all digits.
use Rattle.std.proofs.Common.{arith, refl, ◌∙◌, ◌≡◌, ◌<◌, ◌/◌, ◌%◌, true}
use Rattle.std.specs.Prelude.{nat_lt}
use Rattle.std.proofs.lemmas.Bool.{lt-ltb}
use Rattle.tz.proofs.PrintedDigits.{two_digits-below}
use Rattle.tz.specs.PrintedText.{two_digits_or_more}
use Rattle.tz_format.specs.Texts.{hours_and_minutes}
use Rattle.tz_format.proofs.line.Line.push_signed.Goals as goal

pub returns-then-colon-clause-text : goal.returns-then-colon-clause-text
unfolding hours_and_minutes two_digits_or_more
returns-then-colon-clause-text c =
    let s = c.args.seconds in
    let below : s / 3600 < 100 = omega arith in
    let hours = two_digits-below (s / 3600) below in
    let minutes = two_digits-below (s / 60 % 60) (omega arith) in
    let short : nat_lt (s / 3600) 100 ≡ true = lt-ltb (s / 3600) 100 below in
    rw (
      c.push_all.ensures.text,
      c.pair_of-hours.ensures ∙ hours,
      c.pair_of-minutes.ensures ∙ minutes,
      c.if-colon.true,
      short,
      hours,
      minutes,
    ) refl

pub returns-else-colon-clause-text : goal.returns-else-colon-clause-text
unfolding hours_and_minutes two_digits_or_more
returns-else-colon-clause-text c =
    let s = c.args.seconds in
    let below : s / 3600 < 100 = omega arith in
    let hours = two_digits-below (s / 3600) below in
    let minutes = two_digits-below (s / 60 % 60) (omega arith) in
    let short : nat_lt (s / 3600) 100 ≡ true = lt-ltb (s / 3600) 100 below in
    rw (
      c.push_all-else-colon.ensures.text,
      c.pair_of-hours.ensures ∙ hours,
      c.pair_of-minutes.ensures ∙ minutes,
      c.if-colon.false,
      short,
      hours,
      minutes,
    ) refl
