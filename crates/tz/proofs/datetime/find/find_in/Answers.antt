-- A search that is promised is never out of range.
use Rattle.tz_zone.proofs.OffsetBounds.{found_end_offsets}
use Rattle.tz.proofs.Common.{inr, zone_of_data, IfErr-weaker, on_ok_weaker}
use Rattle.tz.proofs.PromisedLists.{never_out_of_range}
use Rattle.tz.proofs.datetime.find.find_in.Goals as goal

pub returns-clause-outcome : goal.returns-clause-outcome
returns-clause-outcome g c =
    let f = c.args.fields.now in
    let kept = c.args.zone.now in
    let ends = found_end_offsets (zone_of_data kept) kept.least_offset kept.greatest_offset kept.offsets in
    let memory = g.L.DateTimeList.takes_memory in
    let valid = c.in_ok-check.ensures.ok in
    let err = IfErr-weaker c.search.result _ _ (λ e fault. inr (valid, fault)) c.search.ensures.err in
    record {
      valid = on_ok_weaker c.search.result (λ made. valid) c.search.ensures.made;
      made = c.search.ensures.made;
      promised = λ promised. IfErr-weaker c.search.result _ _
          (λ e fault. never_out_of_range memory (zone_of_data kept) kept.least_offset kept.greatest_offset ends
          kept.least_fits kept.greatest_fits f promised e fault) err;
      err = err;
    }
