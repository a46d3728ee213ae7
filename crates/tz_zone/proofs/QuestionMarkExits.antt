-- The exit of a `?`, where one clause speaks of both outcomes.
use Rattle.tz_zone.proofs.Common.{◌≡◌, Result, MatchResult, err_from_is_err_and, IsErrAnd}

pub exit : {T E : Type 0} (ok : T → Type 0) (err : E → Type 0) (f : E) (r : Result T E) → IsErrAnd r (λ e. e ≡ f)
    → err f → MatchResult r ok err
exit ok err f r is holds = let p = err_from_is_err_and r is in rw (p.1, p.2) holds
