-- The column has one answer at the index, and the single call gives it.
use Rattle.tz_c.proofs.Common.{rules, SFits, to_z-of_z, w64, pos, zone_of_data, slice_index_or}
use Rattle.tz_c.proofs.SingleCalls.{offset_element}
use Rattle.tz_c.proofs.laws.offsets_are_single_calls.Goals as goal

pub returns : goal.returns
returns c =
    let unix_times = c.args.unix_times.now in
    let u = slice_index_or unix_times c.args.index (pos 0) in
    let fits : SFits w64 u = search rules in
    let single = rw (to_z-of_z w64 u fits) at c.tz_zone_type_at.ensures.answer in
    let element = offset_element (zone_of_data c.args.zone.now) unix_times _ _ _ _ c.args.index _ _
    c.tz_zone_type_at.new.out
    c.tz_column_offsets.ensures.answer c.requires.lengths c.requires.within single in
    record { code = element.code_is; value = element.value_is; kept = element.kept }
