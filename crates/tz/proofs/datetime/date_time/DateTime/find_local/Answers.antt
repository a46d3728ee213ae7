-- The zone that is searched is that of the call, and so are the fields.
use Rattle.tz.proofs.Common.{subst, Zone, IsOutcome, ⊤}
use Rattle.tz.proofs.datetime.date_time.DateTime.find_local.Goals as goal

pub returns-clause-outcome : goal.returns-clause-outcome
returns-clause-outcome g c =
    let outcome = rw c.fields.ensures.value at c.find_fields.ensures.outcome in
    subst (λ (z : Zone). IsOutcome (λ e. e) ⊤ z c.args.local c.find_fields.result) c.of.ensures outcome
