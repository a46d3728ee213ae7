-- A query has the answer of what it asks for, and a line that is no query that of its error.
use Rattle.tz_query.proofs.Common.{refl, [], ◌∷◌, inl, inr, codes}
use Rattle.tz_query.proofs.laws.first_lines_have_answers.Goals as goal

pub returns-in_default : goal.returns-in_default
returns-in_default c =
    let (line, first) = c.after_line.ensures in
    (line, codes "E Line" ∷ [], first, inr (λ query. c.in_default.ensures.none line _ query first, refl))

pub returns : goal.returns
returns c =
    let (line, first, is_query) = c.in-Some.ensures.some in
    let (answer, is) = c.queries_have_answers.ensures in
    (line, answer, first, inl (c.in-Some.query, is_query, is))
