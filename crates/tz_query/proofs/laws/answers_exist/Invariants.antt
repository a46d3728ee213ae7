-- If the rest has answers, all has.
use Rattle.tz_query.proofs.Common.{length, ℕ, List, zone_of, AreAnswers}
use Rattle.tz_query.proofs.laws.answers_exist.Given as goal

abbrev pub invariant-loop-rest : goal.invariant-loop-rest
invariant-loop-rest l = (more : List ℕ) → AreAnswers (zone_of l.zone) l.rest more
    → (bytes : List ℕ) × AreAnswers (zone_of l.zone) l.queries bytes

abbrev pub decreases-loop-rest : goal.decreases-loop-rest
decreases-loop-rest l = length l.rest
