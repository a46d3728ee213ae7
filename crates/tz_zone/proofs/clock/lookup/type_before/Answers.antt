-- The transition before the position has a type of the zone.
use Rattle.tz_zone.proofs.Common.{zone_of_data}
use Rattle.tz_zone.proofs.Positions.{names_type, type_of_before}
use Rattle.tz_zone.proofs.clock.lookup.type_before.Goals as goal

pub type_of-requires : goal.type_of-requires
type_of-requires c =
    let zone = c.args.zone.now in
    names_type (zone_of_data zone) zone.sound c.args.position c.before-change.result
    (rw c.requires.view at c.before-change.ensures.before)

pub returns-clause-value : goal.returns-clause-value
returns-clause-value c =
    let zone = c.args.zone.now in
    type_of_before (zone_of_data zone) zone.sound c.args.position c.before-change.result c.type_of.result.now
    (rw c.requires.view at c.before-change.ensures.before) c.type_of.ensures
