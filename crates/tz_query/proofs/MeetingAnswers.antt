-- The date of a week, and the answer lines of weeks in turn.
use Rattle.tz_query.proofs.Common.{sym, subst, refl, arith, ◌≡◌, [], ap, ◌∷◌, ◌∙◌, ◌++◌, length, ℕ, List, ◌+◌, append_assoc, ℤ, ended, Fields, Zone, ints, line_feed, flat_map, IsCivil, decimal, AreWeekAnswers, IsWeekAnswer, meeting_letter, space, IsDateOf, meeting_lines, midnight}
use Rattle.tz_query.proofs.AnswerLines.{ended-append}

-- what shows the beginning of a day has its date
pub date_of_day : (day : ℤ) (d : Fields) → IsCivil (midnight day) 0 d → IsDateOf day d.year d.month d.month_day
date_of_day day d civil =
    let range = civil.valid.in_range in
    record {
      month_is = range.month;
      month_day_is = (range.month_day.0, civil.valid.in_month);
      day_is = omega (arith, ints, civil.reads, civil.below_60, range.hour, range.minute);
    }

-- the lines of all weeks
pub ended-weeks : (weeks : List (List (List ℕ))) → ended (flat_map (λ (week : List (List ℕ)). week) weeks)
    ≡ flat_map ended weeks
ended-weeks [] = refl
ended-weeks (week ∷ weeks) = ended-append week (flat_map (λ (w : List (List ℕ)). w) weeks) ∙ ap (λ bs. ended week ++ bs)
    (ended-weeks weeks)

-- one more week
pub weeks_more : (z : Zone) (f : Fields) (k : ℕ) (weeks : List (List (List ℕ))) (answer : List (List ℕ))
    → AreWeekAnswers z f k weeks → IsWeekAnswer z f (k + length weeks) answer
    → AreWeekAnswers z f k (weeks ++ answer ∷ [])
weeks_more z f k [] answer are is = (
  subst (λ n. IsWeekAnswer z f n answer) (let e : k + 0 ≡ k = omega arith in e) is,
  tt,
)
weeks_more z f k (week ∷ weeks) answer are is = (
  are.0,
  weeks_more z f (k + 1) weeks answer are.1
      (subst (λ n. IsWeekAnswer z f n answer) (let e : k + length (week ∷ weeks) ≡ k + 1 + length weeks =
      omega arith in e) is),
)

-- after the line with their number the lines of all weeks are those of the meeting
pub meeting_written : (was : List ℕ) (weeks : List (List (List ℕ))) (count : ℕ) → length weeks ≡ count →
    (was ++ ended ((meeting_letter ∷ space ∷ decimal count) ∷ [])) ++ flat_map ended weeks
    ≡ was ++ ended (meeting_lines weeks)
meeting_written was weeks count many =
    let first = meeting_letter ∷ space ∷ decimal count in
    let more = flat_map ended weeks in
    append_assoc was (first ++ line_feed ∷ []) more
    ∙ ap (λ bs. was ++ bs) (append_assoc first (line_feed ∷ []) more
    ∙ ap (λ bs. first ++ line_feed ∷ bs) (sym (ended-weeks weeks))
    ∙ ap (λ n. (meeting_letter ∷ space ∷ decimal n) ++ line_feed
    ∷ ended (flat_map (λ (week : List (List ℕ)). week) weeks)) (sym many))
