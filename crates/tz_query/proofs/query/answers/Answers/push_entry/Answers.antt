-- The line of the entry.
use Rattle.tz_query.proofs.Common.{sym, [], ap, ◌∷◌, ◌∙◌, append_assoc, ended, moment_text, IfOk-weaker, DateTime, entry_text}
use Rattle.tz_query.proofs.AddedText.{adds_joined, with_text}
use Rattle.tz_query.proofs.query.answers.Answers.push_entry.Goals as goal

pub returns-in-Normal : goal.returns-in-Normal
returns-in-Normal g c = IfOk-weaker c.push_listed.result _ _
    (λ done. with_text (ap (λ e. ended (entry_text e ∷ [])) (sym c.in-Normal.is))) c.push_listed.ensures.text

pub returns-in_ok-push_listed-in-Skipped : goal.returns-in_ok-push_listed-in-Skipped
returns-in_ok-push_listed-in-Skipped g c =
    let a : DateTime = c.in-Skipped.before_transition in
    let text =
    ap (λ bytes. 83 ∷ 32 ∷ bytes) (sym (append_assoc (moment_text a) (32 ∷ moment_text c.in-Skipped.after_transition)
    (10 ∷ [])))
    ∙ ap (λ e. ended (entry_text e ∷ [])) (sym c.in-Skipped.is) in
    IfOk-weaker c.push_listed-in-Skipped-2.result _ _
    (λ done adds. with_text text (adds_joined (83 ∷ 32 ∷ moment_text a) c.pop.new.self
    c.in_ok-push_listed-in-Skipped.ensures.text c.in_ok-push_listed-in-Skipped.ensures.ended c.pop.ensures.text
    adds))
    c.push_listed-in-Skipped-2.ensures.text
