-- The slots hold what is found from a number on.
use Rattle.tz.proofs.Common.{arith, ◌∙◌, common_steps}
use Rattle.tz.proofs.PlacedSlots.{held}
use Rattle.tz.proofs.datetime.slots.find_into.Goals as goal

pub returns-clause-ok : goal.returns-clause-ok
returns-clause-ok g c =
    let ok = c.in_ok-search.ensures.ok in
    let new = c.new-writer.ensures in
    let holds = held g.S.Slot.holding c.new-writer.result c.search.new.list c.args.slots.now c.args.skip ok.0 ok.1
    (omega (arith, ok.3)) new.slots new.skip new.count in
    let same_reference = ok.1.0 ∙ new.same_reference in
    let slots = holds.1 in
    (ok.0, ok.2, holds.0, grind (arith, common_steps))
