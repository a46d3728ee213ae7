-- The stretch is one of the zone's clock, and the indexes before the index are answered.
use Rattle.tz.proofs.Common.{zone_of_data}
use Rattle.tz.specs.Columns.{AreAnswered}
use Rattle.tz.specs.InstantColumns.{HoldsInstantAt, IsInstantOfReading, IsStretch}
use Rattle.tz.proofs.columns.instants.write_instants_of_block.Given as goal

abbrev pub invariant-loop-i : goal.invariant-loop-i
invariant-loop-i g l = IsStretch (zone_of_data l.zone) l.last
    × AreAnswered
    (HoldsInstantAt g.S.InstantSlot.holding (IsInstantOfReading (zone_of_data l.zone) l.disambiguation) l.readings)
    l.index l.i l.initial.slots l.slots
