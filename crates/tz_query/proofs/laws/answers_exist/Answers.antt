-- The answer of the first line stands before those of the rest, and no bytes answer none.
use Rattle.tz_query.proofs.Common.{sym, subst, [], ◌++◌, length, rules, zone_of, ended, AreAnswers, nil_from_length}
use Rattle.tz_query.proofs.AnswerLines.{AreAnswers-nil, AreAnswers-cons, rest_is_shorter, some_left}
use Rattle.tz_query.proofs.laws.answers_exist.Goals as goal

pub loop-rest-init : goal.loop-rest-init
loop-rest-init c = λ more are. (more, are)

pub loop-rest-preserved : goal.loop-rest-preserved
loop-rest-preserved c =
    let (line, answer, first, is) = c.first_lines_have_answers-rest.ensures in
    λ more are. c.loop-rest.invariant (ended answer ++ more)
    (AreAnswers-cons (zone_of c.args.zone.now) _ line _ more answer (search some_left) first is are)

pub returns : goal.returns
returns c = c.loop-rest.invariant [] (subst (λ rest. AreAnswers (zone_of c.args.zone.now) rest [])
    (sym (nil_from_length c.loop-rest.rest.now (search rules))) (AreAnswers-nil (zone_of c.args.zone.now)))

pub loop-rest-smaller : goal.loop-rest-smaller
loop-rest-smaller c =
    let (line, answer, first, is) = c.first_lines_have_answers-rest.ensures in
    rest_is_shorter c.loop-rest.rest.now line _ first (search some_left)
