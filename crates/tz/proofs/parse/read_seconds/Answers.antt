-- The seconds after the colon are these alone.
use Rattle.tz.proofs.Common.{arith, subst, inr, inl, IsPair}
use Rattle.tz.proofs.TextFronts.{pair_unique}
use Rattle.tz.proofs.parse.read_seconds.Goals as goal

pub returns-then-hours-from-gt2147483647 : goal.returns-then-hours-from-gt2147483647
returns-then-hours-from-gt2147483647 c seconds rest (inl none, below) = none.0 (c.in-Some.after.now, c.in-Some.ensures)
returns-then-hours-from-gt2147483647 c seconds rest (inr (after, colon, is), below) =
    let same = pair_unique rest c.in_ok-seconds.rest.now
    (subst (λ bs. IsPair 0 59 bs seconds rest) (cc (colon, c.in-Some.ensures)) is) c.in_ok-seconds.ensures in
    omega (arith, same.0, below, c.if-hours-from-gt2147483647.true, c.from.ensures, c.from-2.ensures)
