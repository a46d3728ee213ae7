-- The list grows by the one that is written.
use Rattle.tz.proofs.PlacedSlots.{grows_by_one}
use Rattle.tz.proofs.datetime.slots.SlotWriterDateTimeList.push.Goals as goal

pub returns-clause-ok : goal.returns-clause-ok
returns-clause-ok g c =
    let e = c.write.ensures in
    grows_by_one g.S.Slot.holding c.args.self.now c.write.new.self c.args.found e.same_reference e.skip e.slots
    e.skipped e.full e.count
