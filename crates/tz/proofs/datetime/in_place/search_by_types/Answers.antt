-- The date times of all entries are all that is found.
use Rattle.tz.proofs.Common.{arith, refl, subst, ◌∙◌, to_z-of_z, rules, w64, IsClock, zone_of_data, IfErr-weaker, on_ok_weaker, common_steps, dated_goes_on, dated_more, dated_none}
use Rattle.tz.proofs.DatedEntries.{fault_from_refused, found_from_entries, made_from_entries}
use Rattle.tz.proofs.datetime.in_place.search_by_types.Goals as goal

pub give_in_window-requires : goal.give_in_window-requires
give_in_window-requires g c κs =
    rw (
      to_z-of_z w64 c.args.low c.ranges.low,
      to_z-of_z w64 c.args.high c.ranges.high,
      to_z-of_z w64 c.reading-reading.result (search rules) ∙ c.reading-reading.ensures.value,
    ) (
      (refl, tt),
      (
        c.new-view.ensures.list ∙ c.transitions.ensures,
        (
          c.requires.searchable,
          (
            record {
              is_taker = record {
                none = dated_none g.L.DateTimeList.gains g.met.L.DateTimeList.none;
                more = dated_more g.L.DateTimeList.gains g.met.L.DateTimeList.more;
                goes_on = dated_goes_on g.L.DateTimeList.gains;
              };
              takes_reading = (c.requires.valid, refl);
            },
            (c.requires.types, c.requires.position),
          ),
        ),
      ),
    )

pub returns-clause-ok : goal.returns-clause-ok
returns-clause-ok g c =
    let reading_is = to_z-of_z w64 c.reading-reading.result (search rules) ∙ c.reading-reading.ensures.value in
    on_ok_weaker c.give_in_window.result (λ given.
    let dated = given.1 in
    let found = dated.2 in (
      found,
      subst (λ now. g.L.DateTimeList.gains c.args.list.now now found) (let name = dated.1 in
          grind (arith, common_steps)) dated.3,
      found_from_entries (IsClock (zone_of_data c.args.zone.now)) c.args.fields.now given.0 found given.2 dated.4,
    )) (rw reading_is at c.give_in_window.ensures.ok)

pub returns-clause-made : goal.returns-clause-made
returns-clause-made g c =
    let reading_is = to_z-of_z w64 c.reading-reading.result (search rules) ∙ c.reading-reading.ensures.value in
    on_ok_weaker c.give_in_window.result
    (λ given. made_from_entries (IsClock (zone_of_data c.args.zone.now)) c.args.fields.now given.0 given.1.2 given.2
    given.1.4) (rw reading_is at c.give_in_window.ensures.ok)

pub returns-clause-err : goal.returns-clause-err
returns-clause-err g c =
    let reading_is = to_z-of_z w64 c.reading-reading.result (search rules) ∙ c.reading-reading.ensures.value in
    IfErr-weaker c.give_in_window.result _ _
    (λ e refused. fault_from_refused (IsClock (zone_of_data c.args.zone.now)) c.args.fields.now c.requires.valid
    g.L.DateTimeList.takes_memory e refused) (rw reading_is at c.give_in_window.ensures.err)
