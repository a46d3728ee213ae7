-- The year, what follows up to the nanoseconds, these, and the suffix make the line.
use Rattle.tz_query.proofs.Common.{ap, ◌∙◌, ◌++◌, rules, to_z-of_z, append_assoc, number_of, w32, signed_decimal, suffix_text, middle_text}
use Rattle.tz_query.proofs.PageLines.{line_text}
use Rattle.tz_query.proofs.query.output.Page.push_date_time.Goals as goal

pub returns-clause-text : goal.returns-clause-text
returns-clause-text c u =
    let page = c.args.self.now in
    let f = c.args.fields.now in
    let t = c.args.suffix.now.local_time_type in
    let year = signed_decimal f.year in
    let nine = c.args.nanoseconds.now.digits in
    c.push_rest.ensures.text
    ∙ ap (λ bytes. bytes ++ (c.middle_of.result ++ (nine ++ suffix_text t)))
    (rw (to_z-of_z w32 f.year (search rules)) at c.push_year.ensures.text)
    ∙ ap (λ bytes. (page ++ year) ++ (bytes ++ (nine ++ suffix_text t))) c.middle_of.ensures.text
    ∙ ap (λ bytes. (page ++ year) ++ (middle_text f ++ (bytes ++ suffix_text t))) c.args.nanoseconds.now.nine
    ∙ append_assoc page year _
    ∙ ap (λ bytes. page ++ bytes) (line_text f (number_of c.args.nanoseconds.now) t u)
