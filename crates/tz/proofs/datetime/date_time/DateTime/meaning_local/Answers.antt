-- The zone that is searched is that of the call, and so are the fields.
use Rattle.tz.proofs.Common.{subst, Zone, IsOutcome}
use Rattle.tz.proofs.datetime.date_time.DateTime.meaning_local.Goals as goal

pub returns-clause-outcome : goal.returns-clause-outcome
returns-clause-outcome c =
    let outcome = rw c.fields.ensures.value at c.meaning_in.ensures.outcome in
    subst (λ (z : Zone). IsOutcome (λ e. e) ⊥ z c.args.local c.meaning_in.result) c.of.ensures outcome
