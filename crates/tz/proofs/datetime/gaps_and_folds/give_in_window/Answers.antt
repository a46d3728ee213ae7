-- The clock has one type in the window, or two with a jump between them, or a walk finds what it has.
use Rattle.tz.proofs.Common.{arith, refl, ◌≡◌, ◌∙◌, subst, ints, [], to_z-of_z, ◌∷◌, rules, w64, IsClock, ◌-ℤ◌, zone_of_data, Shown, IfErr-weaker, on_ok_weaker, HasTwoTypes}
use Rattle.tz.proofs.EntryWalks.{entries_once, few_entries}
use Rattle.tz.proofs.datetime.gaps_and_folds.give_in_window.Goals as goal

pub shown-requires : goal.shown-requires
shown-requires g c =
    let u = c.shown_at.result in
    let at : u ≡ c.args.reading -ℤ c.in-One.local_time_type.now.ut_offset =
    rw (to_z-of_z w64 c.args.reading c.ranges.reading) at c.shown_at.ensures in
    rw (to_z-of_z w64 u (search rules))
    (λ k. (
      (refl, tt),
      subst (g.E.EntryTaker.takes c.args.entries.now) (omega (arith, ints, at))
          c.requires.takes.takes_reading,
    ))

pub walk-answer-requires : goal.walk-answer-requires
walk-answer-requires g c =
    let reading_is = to_z-of_z w64 c.args.reading c.ranges.reading in
    let low_is = to_z-of_z w64 c.args.low c.ranges.low in
    rw (reading_is, low_is, to_z-of_z w64 c.args.high c.ranges.high) (λ k. (
      (refl, tt),
      (
        c.fresh-rest.ensures.list ∙ c.requires.view,
        (c.requires.searchable, (c.requires.takes, rw c.in-More.is at c.requires.position)),
      ),
    ))

pub returns-in-One : goal.returns-in-One
returns-in-One g c =
    let z = zone_of_data c.args.zone in
    let r = c.args.reading in
    let s = c.requires.searchable in
    let t = c.in-One.local_time_type.now in
    let u = c.shown_at.result in
    let u_is = to_z-of_z w64 u (search rules) in
    let at : u ≡ r -ℤ t.ut_offset = rw (to_z-of_z w64 r c.ranges.reading) at c.shown_at.ensures in
    let types = rw c.in-One.is at c.requires.types in
    let once = entries_once z s.sound.leap_seconds_are r c.args.low c.args.high t u s.order s.offsets types at in
    record {
      ok = on_ok_weaker c.shown.result (λ gains. (Shown u t ∷ [], gains, once, omega arith))
          (rw u_is at c.shown.ensures.ok);
      err = IfErr-weaker c.shown.result _ _ (λ e refused. (Shown u t, once.sound 0 (Shown u t) (omega arith), refused))
          (rw u_is at c.shown.ensures.err);
      kept = omega arith;
      at_most = on_ok_weaker c.shown.result (λ gains b w bits most. omega arith) c.shown.ensures.ok;
      none = on_ok_weaker c.shown.result (λ gains empty. refl) c.shown.ensures.ok;
    }

pub returns-in-Two : goal.returns-in-Two
returns-in-Two g c =
    let z = zone_of_data c.args.zone in
    let r = c.args.reading in
    let low = c.args.low in
    let high = c.args.high in
    let s = c.requires.searchable in
    let jump = c.in-Two.unix_time in
    let reading_is = to_z-of_z w64 r c.ranges.reading in
    let jump_is = to_z-of_z w64 jump (search rules) in
    let has : HasTwoTypes z r jump c.in-Two.before.now c.in-Two.after.now = record {
      leap_seconds_are = s.sound.leap_seconds_are;
      low = low;
      high = high;
      offsets_are = s.offsets;
      types_are = (rw c.in-Two.is at c.requires.types);
    } in
    record {
      ok = on_ok_weaker c.give_around.result
          (λ given. (
            given.0,
            given.1,
            given.2 z has,
            few_entries (IsClock z) low high r s.offsets given.0 s.width
                (given.2 z has),
          ))
          (rw (reading_is, jump_is) at c.give_around.ensures.ok);
      err = IfErr-weaker c.give_around.result _ _ (λ e refused. (refused.0, refused.2 z has, refused.1))
          (rw (reading_is, jump_is) at c.give_around.ensures.err);
      kept = omega arith;
      at_most = on_ok_weaker c.give_around.result (λ given b w bits most. omega arith) c.give_around.ensures.ok;
      none = on_ok_weaker c.give_around.result (λ given empty. refl) c.give_around.ensures.ok;
    }

pub returns-in-More-clause-ok : goal.returns-in-More-clause-ok
returns-in-More-clause-ok g c = rw (to_z-of_z w64 c.args.reading c.ranges.reading) at c.walk-answer.ensures.ok

pub returns-in-More-clause-at_most : goal.returns-in-More-clause-at_most
returns-in-More-clause-at_most g c =
    let low_is = to_z-of_z w64 c.args.low c.ranges.low in
    let most = rw (low_is, to_z-of_z w64 c.args.high c.ranges.high) at c.walk-answer.ensures.at_most in
    let begun = c.fresh-rest.ensures in
    let added = c.add_looks.ensures.looks.at_most in
    rw c.in-More.is (on_ok_weaker c.walk-answer.result
    (λ at_most b w bits within.
    omega (arith, at_most b w (rw begun.list bits) within, begun.looks, c.looks.ensures, added)) most)

pub returns-in-More-clause-none : goal.returns-in-More-clause-none
returns-in-More-clause-none g c =
    let begun = c.fresh-rest.ensures in
    let added = c.add_looks.ensures.looks in
    on_ok_weaker c.walk-answer.result
    (λ none empty.
    omega (arith, none (rw begun.list empty), begun.looks, c.looks.ensures, added.kept, added.at_most))
    c.walk-answer.ensures.none
