-- The indexes before the index are answered.
use Rattle.tz.specs.Columns.{AreAnswered}
use Rattle.tz.specs.InstantColumns.{HoldsInstantAt, IsShownIn}
use Rattle.tz.proofs.columns.instants.write_in_stretch.Given as goal

abbrev pub invariant-loop-i : goal.invariant-loop-i
invariant-loop-i g l = AreAnswered (HoldsInstantAt g.S.InstantSlot.holding (IsShownIn l.stretch) l.readings) l.index l.i
    l.initial.slots l.slots
