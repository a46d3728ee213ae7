-- Each line's answer stands after those before it, and in the end no line is left.
use Rattle.tz_query.proofs.Common.{sym, subst, arith, ◌≡◌, [], ap, ◌∙◌, ◌++◌, length, rules, ◌<◌, append_assoc, zone_of, ended, ints, append-nil, AreAnswers, written, nil_from_length}
use Rattle.tz_query.proofs.AnswerLines.{AreAnswers-nil, AreAnswers-cons, rest_is_shorter, some_left}
use Rattle.tz_query.proofs.query.answers.answer.Goals as goal

pub loop-rest-init : goal.loop-rest-init
loop-rest-init g c =
    let kept = c.keep_segment.ensures in
    let queries = c.args.queries.now in
    let items = c.in_ok-answers.answers.items in
    let none : items ++ c.new-page.result ≡ [] = ap (λ page. items ++ page) c.new-page.ensures ∙ append-nil items
    ∙ c.in_ok-answers.ensures.items in (
      kept.sound (λ u after before. absurd (omega (arith, ints, after, before))),
      λ more are.
          subst (λ bytes. AreAnswers (zone_of c.args.zone) queries (bytes ++ more))
          (sym (ap written kept.output_is ∙ none))
          (subst (λ zone. AreAnswers (zone_of zone) queries more) kept.zone_is are),
    )

pub loop-rest-preserved : goal.loop-rest-preserved
loop-rest-preserved g c =
    let was = c.loop-rest.answers in
    let (line, answer, first, is, adds) = c.in_ok-rest.ensures in
    let some : 0 < length c.loop-rest.rest.now = search some_left in (
      adds.sound c.loop-rest.invariant.0,
      λ more are.
          let over = subst (λ zone. AreAnswers (zone_of zone) c.in_ok-rest.rest.now more) adds.zone_is are in
          subst (AreAnswers (zone_of c.args.zone) c.args.queries.now)
          (sym (append_assoc (written was.output) (ended answer) more) ∙ ap (λ bytes. bytes ++ more) (sym adds.text_is))
          (c.loop-rest.invariant.1 (ended answer ++ more)
          (AreAnswers-cons (zone_of was.zone) _ line _ more answer some first is over)),
    )

pub returns-clause-ok : goal.returns-clause-ok
returns-clause-ok g c =
    let end = c.loop-rest.answers in
    subst (AreAnswers (zone_of c.args.zone) c.args.queries.now) (append-nil (written end.output)
    ∙ sym c.in_ok-flush.ensures.answers)
    (c.loop-rest.invariant.1 [] (subst (λ rest. AreAnswers (zone_of end.zone) rest [])
    (sym (nil_from_length c.loop-rest.rest.now (search rules))) (AreAnswers-nil (zone_of end.zone))))

pub loop-rest-smaller : goal.loop-rest-smaller
loop-rest-smaller g c =
    let (line, answer, first, is, adds) = c.in_ok-rest.ensures in
    rest_is_shorter c.loop-rest.rest.now line _ first (search some_left)

pub answer_line-requires : goal.answer_line-requires
answer_line-requires g c = c.loop-rest.invariant.0
