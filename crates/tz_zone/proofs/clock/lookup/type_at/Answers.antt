-- Before the last transition the type is that of the one before the position; from there on it is the rule's.
use Rattle.tz_zone.proofs.Common.{arith, to_z-of_z, ℕ, w64, subst, zone_of_data, IsReachedAt}
use Rattle.tz_zone.proofs.PositionRuns.{types_from_last}
use Rattle.tz_zone.proofs.clock.lookup.type_at.Goals as goal

pub returns-then-position-transitions : goal.returns-then-position-transitions
returns-then-position-transitions c =
    let zone = c.args.zone.now in
    let z = zone_of_data zone in
    let u = c.args.unix_time in
    let all = c.if-position-transitions.true in
    let at = subst (λ (k : ℕ). IsReachedAt z u k) all (c.requires.all all) in
    types_from_last z zone.sound c.requires.at_least_one u at c.type_from_last.result
    (rw (to_z-of_z w64 u c.ranges.unix_time) at c.type_from_last.ensures)

pub returns : goal.returns
returns c =
    c.requires.before (omega (arith, c.if-position-transitions.false, c.requires.within)) c.type_before.result.now
    c.type_before.ensures.value
