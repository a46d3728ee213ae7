-- The one date time is all that is found, or the list has all. A search that is promised is never out of range.
use Rattle.tz_zone.proofs.OffsetBounds.{found_end_offsets}
use Rattle.tz.proofs.Common.{inr, ◌≡◌, ◌∙◌, ◌-ℤ◌, to_z-of_z, rules, w64, reading, zone_of_data, ⊤, IfErr-weaker, on_ok_weaker}
use Rattle.tz.proofs.FoundInPlace.{found_once}
use Rattle.tz.proofs.PromisedLists.{never_out_of_range}
use Rattle.tz.proofs.datetime.in_place.find_in_place.Goals as goal

pub returns-in_default-clause-outcome : goal.returns-in_default-clause-outcome
returns-in_default-clause-outcome g c =
    let f = c.args.fields.now in
    let kept = c.args.zone.now in
    let ends = found_end_offsets (zone_of_data kept) kept.least_offset kept.greatest_offset kept.offsets in
    let valid = c.in_ok-check.ensures.ok in
    let err = IfErr-weaker c.list_by_types.result _ _ (λ e fault. inr (valid, fault)) c.list_by_types.ensures.err in
    record {
      valid = on_ok_weaker c.list_by_types.result (λ made. valid) c.list_by_types.ensures.made;
      made = c.list_by_types.ensures.made;
      promised = λ promised. IfErr-weaker c.list_by_types.result _ _
          (λ e fault. never_out_of_range ⊤ (zone_of_data kept) kept.least_offset kept.greatest_offset ends
          kept.least_fits kept.greatest_fits f promised e fault) err;
      err = err;
    }

pub returns-clause-ok : goal.returns-clause-ok
returns-clause-ok g c =
    let z = zone_of_data c.args.zone.now in
    let f = c.args.fields.now in
    let low = c.window_of-low.result.0 in
    let high = c.window_of-low.result.1 in
    let reading_is = to_z-of_z w64 c.reading-reading.result (search rules) ∙ c.reading-reading.ensures.value in
    let searchable = rw reading_is at c.window_of-low.ensures.searchable in
    let types = rw (
      to_z-of_z w64 low (search rules),
      to_z-of_z w64 high (search rules),
    ) at c.types_of_window-types.ensures.types in
    let t = c.in-Some.local_time_type.now in
    let u = c.shown_at-unix_time.result in
    let at : u ≡ reading f -ℤ t.ut_offset = rw reading_is at c.shown_at-unix_time.ensures in
    let once = rw reading_is at c.in-Some.ensures in
    rw (c.of_fields-date_time.ensures, to_z-of_z w64 u (search rules))
    (found_once z f low high searchable c.types_of_window-types.result t u types once at).0

pub returns-clause-outcome : goal.returns-clause-outcome
returns-clause-outcome g c =
    let z = zone_of_data c.args.zone.now in
    let f = c.args.fields.now in
    let low = c.window_of-low.result.0 in
    let high = c.window_of-low.result.1 in
    let reading_is = to_z-of_z w64 c.reading-reading.result (search rules) ∙ c.reading-reading.ensures.value in
    let searchable = rw reading_is at c.window_of-low.ensures.searchable in
    let types = rw (
      to_z-of_z w64 low (search rules),
      to_z-of_z w64 high (search rules),
    ) at c.types_of_window-types.ensures.types in
    let t = c.in-Some.local_time_type.now in
    let u = c.shown_at-unix_time.result in
    let at : u ≡ reading f -ℤ t.ut_offset = rw reading_is at c.shown_at-unix_time.ensures in
    let once = rw reading_is at c.in-Some.ensures in
    record {
      valid = c.in_ok-check.ensures.ok;
      made = (found_once z f low high searchable c.types_of_window-types.result t u types once at).1;
      promised = λ promised. tt;
      err = tt;
    }
