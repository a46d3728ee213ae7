-- The column has one answer at the index, and the single call gives it.
use Rattle.tz_c.proofs.Common.{zone_of_data, slice_get-get_or, choice_of}
use Rattle.tz_c.proofs.SingleCalls.{instant_element, known_choice}
use Rattle.tz_c.proofs.laws.instants_are_single_calls.Goals as goal

pub returns : goal.returns
returns c =
    let written = c.tz_find_one-code.new.out in
    let element = instant_element (zone_of_data c.args.zone.now) (choice_of c.args.choice) c.args.fields.now _ _ _ _ _
    c.args.index _
    _ written
    c.tz_column_instants.ensures.answer (known_choice c.args.choice c.requires.choice) c.requires.lengths
    (slice_get-get_or c.args.fields.now c.args.index _ c.requires.within) c.year_fits.ensures
    c.tz_find_one-code.ensures.answer in
    record { code = element.code_is; value = element.value_is; kept = element.kept }
