-- A search that fails has the outcome of the one in the list.
use Rattle.tz.proofs.Common.{err_from_is_err_and}
use Rattle.tz.proofs.datetime.find.find_fields.Goals as goal

pub returns-in_err-find_in-clause-outcome : goal.returns-in_err-find_in-clause-outcome
returns-in_err-find_in-clause-outcome g c =
    let p = err_from_is_err_and c.from_residual.result c.from_residual.ensures.1 in
    let outcome = c.in_err-find_in.ensures.outcome in
    rw (p.1, p.2) (record { valid = tt; made = tt; promised = outcome.promised; err = outcome.err })
