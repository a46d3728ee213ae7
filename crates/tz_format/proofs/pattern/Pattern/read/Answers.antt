-- A reading has the parts that are read, and so it is the date time that is printed again.
use Rattle.std.proofs.Common.{◌≡◌, ◌∙◌, ap, sym, subst, Some, None}
use Rattle.std.specs.Prelude.{if◌then◌else◌}
use Rattle.tz_format.specs.Patterns.{text_of, items_of}
use Rattle.tz_format.specs.Readings.{IsGuess, IsReadFault, are_shown}
use Rattle.tz_format.specs.Shown.{Shown, shown_of}
use Rattle.tz_format.proofs.Moments.{same_shown}
use Rattle.tz_format.proofs.pattern.Pattern.read.Goals as goal

pub returns-then-not-is_printed-clause-err : goal.returns-then-not-is_printed-clause-err
returns-then-not-is_printed-clause-err c =
    let pattern = c.args.self.now.text.now in
    let text = c.args.text.now in
    let values = c.in-Some.guess.values in
    let has_offset = c.in-Some.guess.has_offset in
    let pattern_is : c.as_bytes.result.now ≡ pattern = c.as_bytes.ensures.value ∙ c.as_str.ensures in
    let guess : IsGuess pattern text values has_offset =
    subst (λ p. IsGuess p text values has_offset) pattern_is c.in-Some.ensures.some in
    let m = shown_of c.in-Some-moment_with.found.1 in
    let (plain, parts, local_is) = c.in-Some-moment_with.ensures.some in
    let (position, is) = c.mismatch-then-not-is_printed.ensures in
    subst (IsReadFault pattern text) (sym is) (
      guess.readable,
      (λ s reading.
          let same : m ≡ s = same_shown m s plain reading.plain
          (λ k below. sym (parts k below) ∙ guess.values_are s reading k below) in
          c.if-not-is_printed.ensures (reading.prints ∙ ap (text_of pattern) (sym same))),
    )

pub returns-clause-once : goal.returns-clause-once
returns-clause-once c = λ s reading.
    let pattern = c.args.self.now.text.now in
    let text = c.args.text.now in
    let values = c.in-Some.guess.values in
    let has_offset = c.in-Some.guess.has_offset in
    let pattern_is : c.as_bytes.result.now ≡ pattern = c.as_bytes.ensures.value ∙ c.as_str.ensures in
    let guess : IsGuess pattern text values has_offset =
    subst (λ p. IsGuess p text values has_offset) pattern_is c.in-Some.ensures.some in
    let m = shown_of c.in-Some-moment_with.found.1 in
    let (plain, parts, local_is) = c.in-Some-moment_with.ensures.some in
    let same : m ≡ s = same_shown m s plain reading.plain
    (λ k below. sym (parts k below) ∙ guess.values_are s reading k below) in (
      reading,
      local_is ∙ ap (λ (t : Shown). t.fields) same,
      c.offset_if.ensures ∙ ap (λ b. if b then Some m.ut_offset else None) guess.offset
          ∙ ap (λ (t : Shown). if are_shown 10 (items_of pattern) then Some t.ut_offset else None) same,
    )
