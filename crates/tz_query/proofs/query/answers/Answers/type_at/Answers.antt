-- The type that the lookup gives.
use Rattle.tz_query.proofs.Common.{subst, to_z-of_z, w64, zone_of, IsClock, Err, IfOk, Result, IfSome, Ok, result_ok}
use Rattle.tz_query.proofs.query.answers.Answers.type_at.Goals as goal

some_if_ok : {T E : Type 0} (r : Result T E) (P : T → Type 0) → IfOk r P → IfSome (result_ok r) P
some_if_ok (Ok x) P is = is
some_if_ok (Err e) P is = tt

pub returns-clause-clock : goal.returns-clause-clock
returns-clause-clock g c =
    let u = c.args.unix_time in
    let lookup = c.find_local_time_type in
    let kept = subst (λ zone. IfOk lookup.result (λ t. IsClock (zone_of zone) u t.now)) c.follow.ensures.zone_is
    (rw (to_z-of_z w64 u c.ranges.unix_time) at lookup.ensures.ok) in
    rw c.ok.ensures.value (some_if_ok lookup.result (λ t. IsClock (zone_of c.args.self.now.zone) u t.now) kept)
