-- A name ends where the first zero byte is found.
use Rattle.tz_zone.proofs.Common.{arith, sym, length, ◌∙◌, ◌<◌, ◌-◌, length-take-le}
use Rattle.tz_zone.proofs.TzNames.{name_there, no_name_there}
use Rattle.tz_zone.proofs.parse.tz_file.name_at.Goals as goal

pub slice_bounds-result-end : goal.slice_bounds-result-end
slice_bounds-result-end c =
    let there = name_there c.args.names.now c.args.index c.in-Some.len
    (rw c.split_at.ensures.back at (sym c.first_zero.ensures ∙ c.in-Some.is)) in
    let below : c.in-Some.len < length c.args.names.now - c.args.index = there.1 in
    let long = c.split_at.ensures.back_len in
    sym (length-take-le c.in-Some.len c.split_at.result.1.now (omega arith))

pub returns-in-Some : goal.returns-in-Some
returns-in-Some c =
    let there = name_there c.args.names.now c.args.index c.in-Some.len
    (rw c.split_at.ensures.back at (sym c.first_zero.ensures ∙ c.in-Some.is)) in
    rw c.split_at.ensures.back (there.0, there.2)

pub returns-in-None : goal.returns-in-None
returns-in-None c = no_name_there c.args.names.now c.args.index
    (rw c.split_at.ensures.back at (sym c.first_zero.ensures ∙ c.in-None.is))
