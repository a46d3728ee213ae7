-- What answers the rest, after what was written, answers all.
use Rattle.tz_query.proofs.Common.{◌++◌, length, ℕ, List, zone_of, AreAnswers, written, IsSound}
use Rattle.tz_query.proofs.query.answers.answer.Given as goal

abbrev pub invariant-loop-rest : goal.invariant-loop-rest
invariant-loop-rest g l =
    IsSound l.answers × ((more : List ℕ) → AreAnswers (zone_of l.answers.zone) l.rest more
    → AreAnswers (zone_of l.zone) l.queries ((written l.answers.output) ++ more))

abbrev pub decreases-loop-rest : goal.decreases-loop-rest
decreases-loop-rest g l = length l.rest
