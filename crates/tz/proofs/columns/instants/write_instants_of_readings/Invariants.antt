-- The stretch is one of the zone's clock, and the indexes before the block are answered.
use Rattle.tz.proofs.Common.{zone_of_data, length, ◌≤◌, ◌-◌}
use Rattle.tz.specs.Columns.{AreAnswered}
use Rattle.tz.specs.InstantColumns.{HoldsInstantAt, IsInstantOfReading, IsStretch}
use Rattle.tz.proofs.columns.instants.write_instants_of_readings.Given as goal

abbrev pub invariant-loop-index : goal.invariant-loop-index
invariant-loop-index g l = IsStretch (zone_of_data l.zone) l.stretch × (l.first ≤ l.index)
    × (l.index ≤ length l.readings)
    × AreAnswered
    (HoldsInstantAt g.S.InstantSlot.holding (IsInstantOfReading (zone_of_data l.zone) l.disambiguation) l.readings)
    l.first l.index l.initial.slots l.slots

abbrev pub decreases-loop-index : goal.decreases-loop-index
decreases-loop-index g l = length l.readings - l.index
