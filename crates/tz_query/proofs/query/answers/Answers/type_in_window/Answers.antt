-- The type is that of the zone's clock, whatever segment is kept.
use Rattle.tz_query.proofs.Common.{subst, to_z-of_z, w64, Zone, IsClock, AreTypesIn}
use Rattle.tz_zone.specs.declared.clock.window_types.WindowTypes.TheVariants.{One}
use Rattle.tz_query.proofs.query.answers.Answers.type_in_window.Goals as goal

pub returns-in-One-clause-some : goal.returns-in-One-clause-some
returns-in-One-clause-some g c =
    let low = c.args.low in
    let high = c.args.high in
    let t = c.in-One.local_time_type in
    subst (λ (z : Zone). AreTypesIn (IsClock z) low high (One t)) c.of.ensures
    (rw (to_z-of_z w64 low c.ranges.low, to_z-of_z w64 high c.ranges.high) at c.in-One.ensures.types)
