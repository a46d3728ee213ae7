-- The zone that is searched is that of the call, and so are the fields and the fault.
use Rattle.tz.proofs.Common.{subst, Zone, IsOutcome, TzError, Err, Result}
use Rattle.tz.specs.declared.datetime.found.FoundDateTimeListRefMut.{FoundDateTimeListRefMut}
use Rattle.tz.proofs.datetime.date_time.DateTime.find_n_local.Goals as goal

pub returns-in-Err-clause-outcome : goal.returns-in-Err-clause-outcome
returns-in-Err-clause-outcome c =
    let outcome = rw c.fields.ensures.value at c.in-Err.ensures.outcome in
    let refused : Result FoundDateTimeListRefMut TzError = Err c.in-Err.refused.fault in
    subst (λ (z : Zone). IsOutcome (λ e. e) ⊥ z c.args.local refused) c.of.ensures
    (record { valid = tt; made = tt; promised = outcome.promised; err = outcome.err })
