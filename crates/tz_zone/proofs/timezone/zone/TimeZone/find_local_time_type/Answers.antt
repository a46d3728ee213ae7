-- The answer is that of the borrowed zone.
use Rattle.tz_zone.proofs.Common.{to_z-of_z, w64, subst, IsClock, IfOk}
use Rattle.tz_zone.proofs.timezone.zone.TimeZone.find_local_time_type.Goals as goal

pub returns-clause-ok : goal.returns-clause-ok
returns-clause-ok g c =
    subst (λ z. IfOk c.find_local_time_type.result (λ t. IsClock z c.args.unix_time t.now)) c.as_ref.ensures
    (rw (to_z-of_z w64 c.args.unix_time c.ranges.unix_time) at c.find_local_time_type.ensures.ok)
