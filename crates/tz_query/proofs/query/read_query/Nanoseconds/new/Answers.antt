-- The text is the nine digits of the number, whose value is that number.
use Rattle.tz_query.proofs.Common.{◌≡◌, ap, ◌∙◌, ◌++◌, nine_digits}
use Rattle.tz_query.proofs.NineDigits.{value_of_nine_digits, nine_of_their_value}
use Rattle.tz_query.proofs.query.read_query.Nanoseconds.new.Goals as goal

pub invariant_of-result : goal.invariant_of-result
invariant_of-result c =
    let n = c.args.number in
    let is : c.copy_from_slice.new.self ≡ nine_digits n = c.copy_from_slice.ensures.after ∙ c.as_bytes.ensures.text
    ∙ c.push_nine_digits.ensures.text ∙ ap (λ text. text ++ nine_digits n) c.new-text.ensures in
    let digits = nine_of_their_value n c.requires c.copy_from_slice.new.self is in
    record { below = digits.0; nine = digits.1 }

pub returns : goal.returns
returns c =
    let n = c.args.number in
    let is : c.copy_from_slice.new.self ≡ nine_digits n = c.copy_from_slice.ensures.after ∙ c.as_bytes.ensures.text
    ∙ c.push_nine_digits.ensures.text ∙ ap (λ text. text ++ nine_digits n) c.new-text.ensures in
    value_of_nine_digits n c.requires c.copy_from_slice.new.self is
