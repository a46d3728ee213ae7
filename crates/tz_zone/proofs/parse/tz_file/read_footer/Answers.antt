-- A fault of the footer's text is one of the footer.
use Rattle.tz_zone.proofs.Common.{ℕ, inr, ◌∙◌, subst, List, IsTzTextFault}
use Rattle.tz_zone.proofs.EmptyLists.{some_unless_empty}
use Rattle.tz_zone.proofs.parse.tz_file.read_footer.Goals as goal

pub returns-in-Err-clause-err : goal.returns-in-Err-clause-err
returns-in-Err-clause-err c =
    let text = c.in_ok-text in
    inr (
      text.ensures.ok,
      (λ none. some_unless_empty text.text.now c.if-is_empty.ensures
          (text.ensures.value ∙ none)),
      subst (λ (t : List ℕ). IsTzTextFault c.args.extended t c.in-Err.error)
          text.ensures.value c.in-Err.ensures.err,
    )
