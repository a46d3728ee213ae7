-- One more week at a time.
use Rattle.tz_query.proofs.Common.{subst, refl, arith, ◌≡◌, [], ◌∷◌, ◌++◌, length, ℕ, List, inl, inr, zone_of, codes, IsWeekAnswer, length-append, meeting_lines, field_fault_text}
use Rattle.tz_query.proofs.MeetingAnswers.{weeks_more}
use Rattle.tz_query.proofs.laws.meetings_have_answers.Goals.{in-Some, in_default}
use Rattle.tz_query.proofs.laws.meetings_have_answers.Goals as goal

pub loop-weeks-init : goal.loop-weeks-init
loop-weeks-init c = ([], refl, tt)

pub loop-weeks-preserved : goal.loop-weeks-preserved
loop-weeks-preserved c =
    let z = zone_of c.args.zone.now in
    let f = c.args.first.now in
    let (weeks, many, are) = c.loop-weeks.invariant in
    let week : (answer : List (List ℕ)) × IsWeekAnswer z f c.loop-weeks.weeks answer = elim c.match-week_of.branch [
      | in-Some w ↦
          let some = w.in-Some in
          let (answer, is) = w.searches_have_answers.ensures in
          (answer, inl (some.fields, some.ensures.inside, some.ensures.some, is))
      | in_default w ↦ (codes "E OutOfRange" ∷ [], inr (w.in_default.ensures.none, refl))
    ] in (
      weeks ++ week.0 ∷ [],
      omega (arith, length-append weeks (week.0 ∷ []), many),
      weeks_more z f 0 weeks week.0 are (subst (λ n. IsWeekAnswer z f n week.0) (omega (arith, many)) week.1),
    )

pub returns : goal.returns
returns c =
    let (weeks, many, are) = c.loop-weeks.invariant in
    let count : length weeks ≡ c.args.count =
    omega (arith, many, c.loop-weeks-test.false, c.loop-weeks.auto.weeks-end) in
    (meeting_lines weeks, inl (c.in-Ok.ensures.valid, weeks, count, are, refl))

pub returns-in-Err : goal.returns-in-Err
returns-in-Err c =
    let fault = c.in-Err.field-0 in
    ((codes "E " ++ field_fault_text fault) ∷ [], inr (fault, c.in-Err.ensures.err, refl))
