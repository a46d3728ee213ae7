-- The search begins with no entries, and takes any.
use Rattle.tz.proofs.Common.{arith, refl, ◌∙◌, [], to_z-of_z, w64, err_from_is_err_and}
use Rattle.tz.proofs.EntryEnds.{takes_all}
use Rattle.tz.proofs.datetime.entry_ends.ends_by_walk.Goals as goal

pub give_in_window-requires : goal.give_in_window-requires
give_in_window-requires c κs =
    rw (
      to_z-of_z w64 c.args.reading c.ranges.reading,
      to_z-of_z w64 c.args.low c.ranges.low,
      to_z-of_z w64 c.args.high
          c.ranges.high,
    ) (
      (refl, tt),
      (
        c.new-view.ensures.list ∙ c.transitions.ensures,
        (
          c.requires.searchable,
          (
            record {
              is_taker = takes_all;
              takes_reading =
                  tt;
            },
            (c.requires.types, c.requires.position),
          ),
        ),
      ),
    )

pub returns-clause-ok : goal.returns-clause-ok
returns-clause-ok c =
    let ok = rw (to_z-of_z w64 c.args.reading c.ranges.reading) at c.in_ok-give_in_window.ensures.ok in
    (ok.0, ok.2, ok.1.1, ok.1.0 [] (omega (arith, ok.3)) c.none-ends.ensures)

pub returns-in_err-give_in_window-clause-err : goal.returns-in_err-give_in_window-clause-err
returns-in_err-give_in_window-clause-err c =
    let p = err_from_is_err_and c.from_residual.result c.from_residual.ensures.1 in
    rw (p.1, p.2) (rw (to_z-of_z w64 c.args.reading c.ranges.reading) at c.in_err-give_in_window.ensures.err)
