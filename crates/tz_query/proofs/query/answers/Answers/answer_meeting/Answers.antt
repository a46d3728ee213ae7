-- The number of weeks and then one more week at a time: by a search for its fields, or that it lies past the years of
-- 32 bits.
use Rattle.tz_query.proofs.Common.{sym, subst, refl, arith, ◌≡◌, [], ap, ◌∷◌, ◌∙◌, ◌++◌, length, ℕ, inl, List, inr, zone_of, ended, Fields, codes, number_of, append-nil, Adds, flat_map, with_nanoseconds, IsSearchAnswer, Meeting, field_fault_text, written, IsWeekAnswer, length-append, meeting_lines, flat_map_more}
use Rattle.tz_query.proofs.AddedText.{adds_both, with_text, answer_written}
use Rattle.tz_query.proofs.OtherNanoseconds.{same_fields}
use Rattle.tz_query.proofs.MeetingAnswers.{meeting_written, weeks_more}
use Rattle.tz_query.proofs.query.answers.Answers.answer_meeting.Goals.{in-Some+in_ok-answer_search-in-Some, in-None+in_ok-push_error-in-None}
use Rattle.tz_query.proofs.query.answers.Answers.answer_meeting.Goals as goal

pub loop-weeks-init : goal.loop-weeks-init
loop-weeks-init g c = (
  [],
  refl,
  tt,
  record { zone_is = refl; sound = λ s. s; text_is = sym (append-nil (written c.push_count.new.self)) },
)

pub loop-weeks-preserved : goal.loop-weeks-preserved
loop-weeks-preserved g c =
    let z = zone_of c.args.self.now.zone in
    let f = c.args.first.now in
    let (weeks, many, are, adds) = c.loop-weeks.invariant in
    let week : (answer : List (List ℕ)) × IsWeekAnswer z f c.loop-weeks.weeks answer
    × Adds c.loop-weeks.self c.match-week_of.self (ended answer) = elim c.match-week_of.branch [
      | in-Some+in_ok-answer_search-in-Some w ↦
          let found = w.in-Some.fields in
          let same : found.nanoseconds ≡ number_of c.new-nanoseconds.result =
          ap (λ (h : Fields). h.nanoseconds) w.in-Some.ensures.some.time ∙ sym c.new-nanoseconds.ensures in
          let (answer, is, text) = w.in_ok-answer_search-in-Some.ensures in
          let searched = subst (λ g. IsSearchAnswer z g answer)
          (same_fields found (number_of c.new-nanoseconds.result) same)
          (subst (λ zone. IsSearchAnswer (zone_of zone) (with_nanoseconds found c.new-nanoseconds.result) answer)
          adds.zone_is is) in
          rw (w.self-is) (answer, inl (found, w.in-Some.ensures.inside, w.in-Some.ensures.some, searched), text)
      | in-None+in_ok-push_error-in-None w ↦
          rw (w.self-is) (
            codes "E OutOfRange" ∷ [],
            inr (w.in-None.ensures.none, refl),
            record {
              zone_is = refl;
              sound = λ s. s;
              text_is = w.in_ok-push_error-in-None.ensures;
            },
          )
    ] in
    let answer = week.0 in (
      weeks ++ answer ∷ [],
      omega (arith, length-append weeks (answer ∷ []), many),
      weeks_more z f 0 weeks answer are (subst (λ n. IsWeekAnswer z f n answer) (omega (arith, many)) week.1),
      with_text (flat_map_more ended [] weeks answer) (adds_both adds week.2),
    )

pub returns : goal.returns
returns g c =
    let (weeks, many, are, adds) = c.loop-weeks.invariant in
    let count : length weeks ≡ c.args.count =
    omega (arith, many, c.loop-weeks-test.false, c.loop-weeks.auto.weeks-end) in (
      meeting_lines weeks,
      inl (c.in-Ok.ensures.valid, weeks, count, are, refl),
      record {
        zone_is = adds.zone_is;
        sound = adds.sound;
        text_is = adds.text_is ∙ ap (λ bs. bs ++ flat_map ended weeks) c.in_ok-push_count.ensures
            ∙ meeting_written (written c.args.self.now.output) weeks c.from.result (count ∙ sym c.from.ensures);
      },
    )

pub returns-in-Err : goal.returns-in-Err
returns-in-Err g c =
    let fault = c.in-Err.fault in
    answer_written (Meeting c.args.count c.args.first.now) c.args.self.now c.push_error.new.self c.push_error.result
    ((codes "E " ++ field_fault_text fault) ∷ [])
    (inr (fault, c.in-Err.ensures.err, refl)) (rw c.field_fault_name.ensures.text at c.push_error.ensures)
