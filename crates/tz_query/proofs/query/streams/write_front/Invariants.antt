use Rattle.tz_query.proofs.Common.{◌≡◌, ◌++◌, length, ℕ, List, Appends}
use Rattle.tz_query.proofs.query.streams.write_front.Given as goal

-- what is not left is written
abbrev pub invariant-loop-rest : goal.invariant-loop-rest
invariant-loop-rest g l = (done : List ℕ) × (l.initial.rest ≡ done ++ l.rest)
    × Appends (g.W.Write.contents l.initial.out) (g.W.Write.contents l.out) done

abbrev pub decreases-loop-rest : goal.decreases-loop-rest
decreases-loop-rest g l = length l.rest
