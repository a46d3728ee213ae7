-- The text of an error's code is that of the error.
use Rattle.tz_c.proofs.Common.{subst, ◌≡◌, ℕ, sym, Some, List, ap, ◌∙◌, error_text, text_of_code, IsTextAnswer}
use Rattle.tz_c.proofs.CodeTexts.{error_text_of, short_text}
use Rattle.tz_c.proofs.codes.tz_error_text.Goals as goal

pub returns-in-Some-clause-error : goal.returns-in-Some-clause-error
returns-in-Some-clause-error c e is =
    let both : Some c.in-Some.given.now ≡ Some (error_text e) =
    sym c.in-Some.ensures ∙ sym (ap text_of_code is) ∙ error_text_of e in
    let same : c.in-Some.given.now ≡ error_text e = cc in
    let of_given = rw c.as_bytes.ensures.value at c.write_text.ensures.answer in
    let written = c.write_text.new in
    subst (λ (given : List ℕ). IsTextAnswer given c.write_text.result c.args.text.now written.text written.len) same
    of_given

pub returns-in-Some-clause-most : goal.returns-in-Some-clause-most
returns-in-Some-clause-most c = short_text c.args.code
