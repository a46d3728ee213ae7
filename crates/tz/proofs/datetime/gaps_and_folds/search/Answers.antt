-- The date times of all entries are all that is found.
use Rattle.tz.proofs.Common.{arith, refl, subst, ◌∙◌, sym, to_z-of_z, rules, w64, IsClock, reading, zone_of_data, IfErr-weaker, on_ok_weaker, common_steps, dated_goes_on, dated_more, dated_none}
use Rattle.tz.proofs.DatedEntries.{as_long, fault_from_refused, found_from_entries, made_from_entries}
use Rattle.tz.proofs.ReadingWindows.{most_in_window}
use Rattle.tz.proofs.datetime.gaps_and_folds.search.Goals as goal

pub search_window-requires : goal.search_window-requires
search_window-requires g c κs =
    let low = c.window_of-low.result.0 in
    let high = c.window_of-low.result.1 in
    let reading_is = to_z-of_z w64 c.reading-reading.result (search rules) in
    rw (to_z-of_z w64 low (search rules), to_z-of_z w64 high (search rules), reading_is) (
      (refl, tt),
      (
        c.requires.view,
        (
          rw reading_is at c.window_of-low.ensures.searchable,
          record {
            is_taker = record {
              none = dated_none g.L.DateTimeList.gains g.met.L.DateTimeList.none;
              more = dated_more g.L.DateTimeList.gains g.met.L.DateTimeList.more;
              goes_on = dated_goes_on g.L.DateTimeList.gains;
            };
            takes_reading = (c.requires.valid, sym c.reading-reading.ensures.value);
          },
        ),
      ),
    )

pub returns : goal.returns
returns g c =
    let z = zone_of_data c.args.zone.now in
    let f = c.args.fields.now in
    let reading_is = to_z-of_z w64 c.reading-reading.result (search rules) ∙ c.reading-reading.ensures.value in
    let ok = rw reading_is at c.search_window.ensures.ok in
    let r = reading f in
    let low = c.window_of-low.result.0 in
    let high = c.window_of-low.result.1 in
    let window = rw reading_is at c.window_of-low.ensures.window in
    let low_is = to_z-of_z w64 low (search rules) in
    let high_is = to_z-of_z w64 high (search rules) in
    let searched = rw (c.requires.view, low_is, high_is) at c.search_window.ensures in
    record {
      ok = on_ok_weaker c.search_window.result (λ given.
          let dated = given.1 in
          let found = dated.2 in
          let are = given.2 in (
            found,
            subst (λ now. g.L.DateTimeList.gains c.args.list.now now found) (let name = dated.1 in
                grind (arith, common_steps)) dated.3,
            found_from_entries (IsClock z) f given.0 found are dated.4,
            omega (arith, as_long (IsClock z) f given.0 found are dated.4, given.3),
          )) ok;
      made = on_ok_weaker c.search_window.result
          (λ given. made_from_entries (IsClock z) f given.0 given.1.2 given.2 given.1.4) ok;
      err = IfErr-weaker c.search_window.result _ _
          (λ e refused. fault_from_refused (IsClock z) f c.requires.valid g.L.DateTimeList.takes_memory e refused)
          (rw reading_is at c.search_window.ensures.err);
      looks = record {
        at_most = on_ok_weaker c.search_window.result
            (λ few b w bits around. few b w bits (most_in_window z r low high window w around)) searched.at_most;
        at_least_one = searched.at_least_one;
        none = searched.none;
      };
    }
