-- The slots hold what is found.
use Rattle.tz.proofs.Common.{arith, ◌∙◌, sym, Some, common_steps}
use Rattle.tz.proofs.PlacedSlots.{held, filled_is_placed}
use Rattle.tz.proofs.datetime.date_time.DateTime.listed_in.Goals as goal

pub returns-in-Ok-clause-ok : goal.returns-in-Ok-clause-ok
returns-in-Ok-clause-ok c =
    let ok = c.in-Ok.ensures.ok in
    let new = c.new-writer.ensures in
    let holds = held Some c.new-writer.result c.find_in.new.list c.args.buf.now 0 ok.0 ok.1
    (omega (arith, ok.3)) new.slots new.skip new.count in
    let same_reference = ok.1.0 ∙ new.same_reference in
    let slots = holds.1 ∙ sym (filled_is_placed c.args.buf.now ok.0) in
    (ok.0, ok.2, c.counted.ensures.count ∙ holds.0, c.counted.ensures.slots ∙ grind (arith, common_steps))
