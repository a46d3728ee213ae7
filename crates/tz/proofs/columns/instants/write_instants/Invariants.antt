-- The indexes before the index are answered.
use Rattle.tz.proofs.Common.{zone_of_data}
use Rattle.tz.specs.Columns.{AreAnswered}
use Rattle.tz.specs.InstantColumns.{HoldsInstantAt, IsInstantOf}
use Rattle.tz.proofs.columns.instants.write_instants.Given as goal

abbrev pub invariant-loop-i : goal.invariant-loop-i
invariant-loop-i g l = AreAnswered
    (HoldsInstantAt g.S.InstantSlot.holding
    (λ x. IsInstantOf (zone_of_data l.zone) l.disambiguation (g.L.LocalTime.fields x)) l.local)
    l.first l.i l.initial.slots l.slots
