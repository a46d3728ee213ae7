-- The civil fields of a total have this total.
use Rattle.tz.proofs.Common.{arith, ◌∙◌, ints, ap, total_nanoseconds_of}
use Rattle.tz.proofs.laws.added_durations_come_back.Goals as goal

pub returns-clause-ok : goal.returns-clause-ok
returns-clause-ok c f g d e (seconds, whole, civil) forwards =
    omega (arith, ints, forwards, (ap (λ x. total_nanoseconds_of x g.nanoseconds) civil.reads) ∙ whole.whole)
