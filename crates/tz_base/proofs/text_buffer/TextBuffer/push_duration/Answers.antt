-- The parts of the duration in turn.
use Rattle.std.proofs.Common.{arith, refl, ◌≡◌, subst, ◌∙◌, sym, [], ◌∷◌, ◌<◌, ◌++◌, ◌%◌, append_assoc, ◌/◌, IsAscii, slice_index_or}
use Rattle.tz_base.specs.PrintedText.{two_digits, duration_text}
use Rattle.std.proofs.lemmas.Str.Ascii.{IsAscii-cons}
use Rattle.std.proofs.lemmas.Str.{IsAscii-append}
use Rattle.tz_base.proofs.PrintedDigits.{two_digits-ascii, two_digits-below, duration_text-short}
use Rattle.tz_base.proofs.text_buffer.TextBuffer.push_duration.Goals as goal

pub push_ascii-requires-clause-ascii : goal.push_ascii-requires-clause-ascii
push_ascii-requires-clause-ascii c =
    let s = c.args.seconds in
    let hours : s / 3600 < 100 = omega arith in
    let minutes : s / 60 % 60 < 100 = omega arith in
    let bytes : slice_index_or c.pair_of-hours.result 0 0 ∷ slice_index_or c.pair_of-hours.result 1 0 ∷ 58
    ∷ slice_index_or c.pair_of-minutes.result 0 0 ∷ slice_index_or c.pair_of-minutes.result 1 0 ∷ []
    ≡ two_digits (s / 3600) ++ (58 ∷ two_digits (s / 60 % 60)) =
    rw (
      c.pair_of-hours.ensures ∙ two_digits-below (s / 3600) hours,
      c.pair_of-minutes.ensures
          ∙ two_digits-below (s / 60 % 60) minutes,
      two_digits-below (s / 3600) hours,
      two_digits-below
          (s / 60 % 60) minutes,
    ) refl in
    subst IsAscii (sym bytes) (IsAscii-append _ _ (two_digits-ascii (s / 3600) hours)
    (IsAscii-cons 58 _ (omega arith) (two_digits-ascii (s / 60 % 60) minutes)))

pub returns-then-rest-eq0-clause-text : goal.returns-then-rest-eq0-clause-text
returns-then-rest-eq0-clause-text c =
    let s = c.args.seconds in
    let hours = two_digits-below (s / 3600) (omega arith) in
    let minutes = two_digits-below (s / 60 % 60) (omega arith) in
    rw (
      c.push_ascii.ensures.text,
      c.pair_of-hours.ensures ∙ hours,
      c.pair_of-minutes.ensures ∙ minutes,
      duration_text-short s (omega arith) (omega arith),
      hours,
      minutes,
    )
    refl

pub returns-else-hours-lt100-clause-text : goal.returns-else-hours-lt100-clause-text
unfolding duration_text
returns-else-hours-lt100-clause-text c =
    rw (c.push_seconds.ensures.text, c.push_two_digits.ensures.text, c.push.ensures.text, c.push_hours.ensures.text)
    (simp append_assoc)
