-- The instant is the one that was passed.
use Rattle.tz_c.proofs.Common.{refl, inl, inr, subst, to_z-of_z, w64, Zone, IsClock, IsLookupFault}
use Rattle.tz_c.proofs.zones.tz_zone_type_at.Goals as goal

pub returns-in-Ok-clause-answer : goal.returns-in-Ok-clause-answer
returns-in-Ok-clause-answer c =
    let is_clock = subst (λ (z : Zone). IsClock z c.args.unix_time c.in-Ok.local_time_type.now) c.as_zone_data.ensures
    (rw (to_z-of_z w64 c.args.unix_time c.ranges.unix_time) at c.in-Ok.ensures.ok) in
    inl (refl, is_clock)

pub returns-in-Err-clause-answer : goal.returns-in-Err-clause-answer
returns-in-Err-clause-answer c =
    let fault = subst (λ (z : Zone). IsLookupFault z c.args.unix_time c.in-Err.error) c.as_zone_data.ensures
    (rw (to_z-of_z w64 c.args.unix_time c.ranges.unix_time) at c.in-Err.ensures.err) in
    inr (c.in-Err.error, c.code_of.ensures, fault)
