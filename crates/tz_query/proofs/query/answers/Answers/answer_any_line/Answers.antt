-- A query is answered by what it asks for, and a line that is no query by its error.
use Rattle.tz_query.proofs.Common.{refl, [], ◌∷◌, rules, ℕ, inl, to_z-of_z, List, inr, w64, zone_of, ended, codes, Search, Time, Adds, IsAnswer, Meeting}
use Rattle.tz_query.proofs.LineFronts.{first_line_to_position}
use Rattle.tz_query.proofs.query.answers.Answers.answer_any_line.Goals.{in-Time+in_ok-answer_any_time-in-Time, in-Search+in_ok-answer_any_search-in-Search, in-Meeting+in_ok-answer_meeting-in-Meeting}
use Rattle.tz_query.proofs.query.answers.Answers.answer_any_line.Goals as goal

pub returns-in_default-clause-answer : goal.returns-in_default-clause-answer
returns-in_default-clause-answer g c =
    let (line, first) = c.after_line.ensures in (
      line,
      codes "E Line" ∷ [],
      first_line_to_position _ _ _ first,
      inr (λ query. c.in_default.ensures.none line _ query first, refl),
      record { zone_is = refl; sound = λ s. s; text_is = c.in_ok-push_error.ensures },
    )

pub returns-clause-answer : goal.returns-clause-answer
returns-clause-answer g c =
    let (line, first, is_query) = c.in-Some.ensures.some in
    let answered : (answer : List (List ℕ)) × IsAnswer (zone_of c.args.self.now.zone) line answer
    × Adds c.args.self.now c.match-query.self (ended answer) = elim c.match-query.branch [
      | in-Time+in_ok-answer_any_time-in-Time w ↦
          let query = w.in-Time in
          let (answer, is, adds) = rw (to_z-of_z w64 query.unix_time
          (search rules)) at w.in_ok-answer_any_time-in-Time.ensures in
          rw w.self-is (answer, inl (Time query.unix_time query.nanoseconds, rw query.is at is_query, is), adds)
      | in-Search+in_ok-answer_any_search-in-Search w ↦
          let query = w.in-Search in
          let (answer, is, adds) = w.in_ok-answer_any_search-in-Search.ensures in
          rw w.self-is (answer, inl (Search query.fields, rw query.is at is_query, is), adds)
      | in-Meeting+in_ok-answer_meeting-in-Meeting w ↦
          let query = w.in-Meeting in
          let (answer, is, adds) = w.in_ok-answer_meeting-in-Meeting.ensures in
          rw w.self-is (answer, inl (Meeting query.count query.fields, rw query.is at is_query, is), adds)
    ] in
    (line, answered.0, first_line_to_position _ _ _ first, answered.1, answered.2)
