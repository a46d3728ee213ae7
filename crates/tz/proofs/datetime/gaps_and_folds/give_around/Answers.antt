-- The first span ends with the change, and the second begins there.
use Rattle.tz.proofs.Common.{arith, refl, subst, ints, [], to_z-of_z, ◌∷◌, rules, w64, ◌++◌, ◌<ℤ◌, ◌≤ℤ◌, err_from_is_err_and, Shown, Jump, IfErr-weaker, on_ok_weaker}
use Rattle.tz.proofs.ChangeEntries.{both, first_alone, first_shown, from_since, jump_alone, second_alone, second_shown, skipped}
use Rattle.tz.proofs.datetime.gaps_and_folds.give_around.Goals as goal

pub returns-then-passes_over : goal.returns-then-passes_over
returns-then-passes_over g c =
    let reading_is = to_z-of_z w64 c.args.reading c.ranges.reading in
    let since_is = to_z-of_z w64 c.args.since c.ranges.since in
    let first = rw reading_is at c.shown_at-first.ensures in
    let second = rw reading_is at c.shown_at-second.ensures in
    let over = rw (reading_is, since_is) at c.if-passes_over.ensures in
    record {
      ok = on_ok_weaker c.skipped.result (λ one. (
        Jump c.args.since c.args.before.now c.args.after.now ∷ [],
        one,
        λ z has. jump_alone c.args.before.now
            c.args.after.now first second z has over,
      )) (rw since_is at c.skipped.ensures.ok);
      err = IfErr-weaker c.skipped.result _ _
          (λ e refused. (
            Jump c.args.since c.args.before.now c.args.after.now,
            refused,
            λ z has. skipped c.args.before.now
                c.args.after.now first second z has over,
          )) (rw since_is at c.skipped.ensures.err);
    }

pub shown-requires : goal.shown-requires
shown-requires g c κs =
    let second = rw (to_z-of_z w64 c.args.reading c.ranges.reading) at c.shown_at-second.ensures in (
      (refl, tt),
      rw (to_z-of_z w64 c.shown_at-second.result (search rules))
          (subst (λ r. g.E.EntryTaker.takes c.args.entries.now r) (omega (arith, ints, second))
          c.requires.takes.takes_reading),
    )

pub returns-then-since-first : goal.returns-then-since-first
returns-then-since-first g c =
    let reading_is = to_z-of_z w64 c.args.reading c.ranges.reading in
    let since_is = to_z-of_z w64 c.args.since c.ranges.since in
    let second_is = to_z-of_z w64 c.shown_at-second.result (search rules) in
    let first = rw reading_is at c.shown_at-first.ensures in
    let second = rw reading_is at c.shown_at-second.ensures in
    let late : c.args.since ≤ℤ c.shown_at-first.result =
    omega (arith, ints, c.if-since-first.true, to_z-of_z w64 c.shown_at-first.result (search rules), since_is) in
    let from = from_since c.args.before.now c.args.after.now first second
    (rw (reading_is, since_is) at c.if-passes_over.ensures) late in
    record {
      ok = on_ok_weaker c.shown.result (λ one. (
        Shown c.shown_at-second.result c.args.after.now ∷ [],
        one,
        λ z has. second_alone c.args.before.now
            c.args.after.now first second z has late from,
      )) (rw second_is at c.shown.ensures.ok);
      err = IfErr-weaker c.shown.result _ _ (λ e refused. (
        Shown c.shown_at-second.result c.args.after.now,
        refused,
        λ z has. second_shown c.args.before.now
            c.args.after.now first second z has from,
      )) (rw second_is at c.shown.ensures.err);
    }

pub returns-in_err-shown-clause-err : goal.returns-in_err-shown-clause-err
returns-in_err-shown-clause-err g c =
    let reading_is = to_z-of_z w64 c.args.reading c.ranges.reading in
    let first_is = to_z-of_z w64 c.shown_at-first.result (search rules) in
    let first = rw reading_is at c.shown_at-first.ensures in
    let second = rw reading_is at c.shown_at-second.ensures in
    let before : c.shown_at-first.result <ℤ c.args.since =
    omega (arith, ints, c.if-since-first.false, first_is, to_z-of_z w64 c.args.since c.ranges.since) in
    let p = err_from_is_err_and c.from_residual.result c.from_residual.ensures.1 in
    rw (p.1, p.2) (
      Shown c.shown_at-first.result c.args.before.now,
      rw first_is at c.in_err-shown.ensures.err,
      λ z has.
          first_shown c.args.before.now c.args.after.now first second z has before,
    )

pub shown-requires-then-since-second : goal.shown-requires-then-since-second
shown-requires-then-since-second g c κs =
    let second = rw (to_z-of_z w64 c.args.reading c.ranges.reading) at c.shown_at-second.ensures in
    let takes = c.requires.takes.is_taker.goes_on c.args.entries.now c.shown-2.new.self _ c.args.reading
    c.in_ok-shown.ensures.ok c.requires.takes.takes_reading in (
      (refl, tt),
      rw (to_z-of_z w64 c.shown_at-second.result (search rules))
          (subst (λ r. g.E.EntryTaker.takes c.shown-2.new.self r) (omega (arith, ints, second)) takes),
    )

pub returns-then-since-second : goal.returns-then-since-second
returns-then-since-second g c =
    let es = Shown c.shown_at-first.result c.args.before.now ∷ [] in
    let fs = Shown c.shown_at-second.result c.args.after.now ∷ [] in
    let reading_is = to_z-of_z w64 c.args.reading c.ranges.reading in
    let since_is = to_z-of_z w64 c.args.since c.ranges.since in
    let first_is = to_z-of_z w64 c.shown_at-first.result (search rules) in
    let second_is = to_z-of_z w64 c.shown_at-second.result (search rules) in
    let first = rw reading_is at c.shown_at-first.ensures in
    let second = rw reading_is at c.shown_at-second.ensures in
    let before : c.shown_at-first.result <ℤ c.args.since =
    omega (arith, ints, c.if-since-first.false, first_is, since_is) in
    let from : c.args.since ≤ℤ c.shown_at-second.result =
    omega (arith, ints, c.if-since-second.true, second_is, since_is) in
    let one = rw first_is at c.in_ok-shown.ensures.ok in
    record {
      ok = on_ok_weaker c.shown-then-since-second.result
          (λ two. (
            es ++ fs,
            c.requires.takes.is_taker.more c.args.entries.now c.shown-2.new.self
                c.shown-then-since-second.new.self es fs one two,
            λ z has. both c.args.before.now c.args.after.now first
                second z has before from,
          ))
          (rw second_is at c.shown-then-since-second.ensures.ok);
      err = IfErr-weaker c.shown-then-since-second.result _ _
          (λ e refused. (
            Shown c.shown_at-second.result c.args.after.now,
            refused,
            λ z has. second_shown c.args.before.now
                c.args.after.now first second z has from,
          ))
          (rw second_is at c.shown-then-since-second.ensures.err);
    }

pub returns-else-since-second-clause-ok : goal.returns-else-since-second-clause-ok
returns-else-since-second-clause-ok g c =
    let reading_is = to_z-of_z w64 c.args.reading c.ranges.reading in
    let since_is = to_z-of_z w64 c.args.since c.ranges.since in
    let first_is = to_z-of_z w64 c.shown_at-first.result (search rules) in
    let first = rw reading_is at c.shown_at-first.ensures in
    let second = rw reading_is at c.shown_at-second.ensures in
    let before : c.shown_at-first.result <ℤ c.args.since =
    omega (arith, ints, c.if-since-first.false, first_is, since_is) in
    let early : c.shown_at-second.result <ℤ c.args.since =
    omega (arith, ints, c.if-since-second.false, to_z-of_z w64 c.shown_at-second.result (search rules), since_is) in (
      Shown c.shown_at-first.result c.args.before.now ∷ [],
      rw first_is at c.in_ok-shown.ensures.ok,
      λ z has.
          first_alone c.args.before.now c.args.after.now first second z has before early,
    )
