-- Where all entries are inside the years, each can be made.
use Rattle.tz.proofs.Common.{◌∙◌, to_z-of_z, rules, w64, IsClock, err_from_is_err_and, zone_of_data}
use Rattle.tz.proofs.EntryEnds.{each_made, outside_refused}
use Rattle.tz.proofs.datetime.slots.check_by_search.Goals as goal

pub returns-in_err-meant_in-clause-err : goal.returns-in_err-meant_in-clause-err
returns-in_err-meant_in-clause-err c =
    let reading_is = to_z-of_z w64 c.reading.result (search rules) ∙ c.reading.ensures.value in
    let p = err_from_is_err_and c.from_residual.result c.from_residual.ensures.1 in
    let refused = rw reading_is at c.in_err-meant_in.ensures.err in
    rw (p.1, p.2) (outside_refused (IsClock (zone_of_data c.args.zone.now)) c.args.fields.now c.requires _ refused)

pub returns-clause-made : goal.returns-clause-made
returns-clause-made c =
    let reading_is = to_z-of_z w64 c.reading.result (search rules) ∙ c.reading.ensures.value in
    let has = rw reading_is at c.in_ok-meant_in.ensures.ok in
    each_made (zone_of_data c.args.zone.now) c.args.fields.now c.requires (has.0, has.1, has.2)
