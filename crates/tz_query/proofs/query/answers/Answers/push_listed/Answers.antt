-- The line of the date time.
use Rattle.tz_query.proofs.Common.{[], ap, ◌∷◌, ◌++◌, number_of, moment_text, IfOk-weaker, DateTime}
use Rattle.tz_query.proofs.AddedText.{with_text}
use Rattle.tz_query.proofs.EntryLines.{made_again}
use Rattle.tz_query.proofs.query.answers.Answers.push_listed.Goals as goal

pub returns-clause-text : goal.returns-clause-text
returns-clause-text g c =
    let d : DateTime = c.args.date_time.now in
    let text = ap (λ (x : DateTime). c.args.front.now ++ (moment_text x ++ 10 ∷ []))
    (made_again d _ _ (number_of c.args.nanoseconds.now) c.fields_of.ensures.fields
    c.local_time_type-local_time_type.ensures c.requires.nanoseconds) in
    IfOk-weaker c.push_shown.result _ _ (λ done adds. with_text text (adds d.unix_time)) c.push_shown.ensures.text
