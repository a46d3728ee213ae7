-- The column has one answer at the index, and the single call gives it.
use Rattle.tz_c.proofs.Common.{rules, SFits, to_z-of_z, w64, pos, zone_of_data, slice_index_or, get_or_from_slice_get}
use Rattle.tz_c.proofs.SingleCalls.{date_time_element}
use Rattle.tz_c.proofs.laws.date_times_are_single_calls.Goals as goal

pub returns : goal.returns
returns c =
    let unix_times = c.args.unix_times.now in
    let u = slice_index_or unix_times c.args.index (pos 0) in
    let fits : SFits w64 u = search rules in
    let written = c.tz_date_time_from_timespec-code.new.out in
    let single = rw (to_z-of_z w64 u fits) at c.tz_date_time_from_timespec-code.ensures.answer in
    let element = date_time_element (zone_of_data c.args.zone.now) unix_times c.args.nanoseconds.now _ _ _ _
    c.args.index _ _ written
    c.tz_column_date_times.ensures.answer c.requires.nanoseconds c.requires.lengths c.requires.within
    (λ d at. rw (get_or_from_slice_get _ c.args.index d _ at) at c.year_fits.ensures) c.year_fits-2.ensures
    single in
    record { code = element.code_is; value = element.value_is; kept = element.kept }
