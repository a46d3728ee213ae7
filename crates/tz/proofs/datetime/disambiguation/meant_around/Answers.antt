-- The jump alone, one shown alone, or both.
use Rattle.tz.proofs.Common.{arith, refl, ◌≡◌, subst, ints, [], ap, to_z-of_z, ◌∷◌, rules, w64, Some, ◌<ℤ◌, ◌≤ℤ◌, err_from_is_err_and, Shown, Jump, Entry, All-nil, IsEntryInside, All-cons, entry_of}
use Rattle.tz.proofs.ChangeEntries.{both, first_alone, from_since, jump_alone, second_alone, skipped}
use Rattle.tz.proofs.EntryEnds.{one_shown_meant}
use Rattle.tz.proofs.datetime.disambiguation.meant_around.Goals as goal
use Rattle.tz.proofs.datetime.disambiguation.meant_around.Goals.{in-Compatible, in-Earlier, in-Later, in-Reject, in-Compatible-disambiguation, in-Earlier-disambiguation, in-Later-disambiguation, in-Reject-disambiguation}

pub returns-in_err-jump-clause-err : goal.returns-in_err-jump-clause-err
returns-in_err-jump-clause-err c =
    let reading_is = to_z-of_z w64 c.args.reading c.ranges.reading in
    let since_is = to_z-of_z w64 c.args.since c.ranges.since in
    let first = rw reading_is at c.shown_at-first.ensures in
    let second = rw reading_is at c.shown_at-second.ensures in
    let over = rw (reading_is, since_is) at c.if-passes_over.ensures in
    let p = err_from_is_err_and c.from_residual.result c.from_residual.ensures.1 in
    rw (p.1, p.2) (
      Jump c.args.since c.args.before.now c.args.after.now,
      rw since_is at c.in_err-jump.ensures.err,
      λ z has. skipped c.args.before.now c.args.after.now first second z has over,
    )

pub returns-then-passes_over-clause-ok : goal.returns-then-passes_over-clause-ok
returns-then-passes_over-clause-ok c =
    let e = Jump c.args.since c.args.before.now c.args.after.now in
    let reading_is = to_z-of_z w64 c.args.reading c.ranges.reading in
    let since_is = to_z-of_z w64 c.args.since c.ranges.since in
    let first = rw reading_is at c.shown_at-first.ensures in
    let second = rw reading_is at c.shown_at-second.ensures in
    let over = rw (reading_is, since_is) at c.if-passes_over.ensures in
    let is : entry_of c.in_ok-jump.jump ≡ e = rw since_is at c.in_ok-jump.ensures.is in (
      e ∷ [],
      λ z has. jump_alone c.args.before.now c.args.after.now first second z has over,
      All-cons IsEntryInside e [] (subst IsEntryInside is c.in_ok-jump.ensures.inside) (All-nil IsEntryInside),
      elim c.match-disambiguation.branch [
        | in-Compatible w ↦ rw (w.result-is, w.in-Compatible.is) (ap (λ (x : Entry). Some x) is)
        | in-Earlier w ↦ rw (w.result-is, w.in-Earlier.is) (ap (λ (x : Entry). Some x) is)
        | in-Later w ↦ rw (w.result-is, w.in-Later.is) (ap (λ (x : Entry). Some x) is)
        | in-Reject w ↦ rw (w.result-is, w.in-Reject.is) refl
      ],
    )

pub returns-then-since-first-clause-ok : goal.returns-then-since-first-clause-ok
returns-then-since-first-clause-ok c =
    let reading_is = to_z-of_z w64 c.args.reading c.ranges.reading in
    let since_is = to_z-of_z w64 c.args.since c.ranges.since in
    let second_is = to_z-of_z w64 c.shown_at-second.result (search rules) in
    let first = rw reading_is at c.shown_at-first.ensures in
    let second = rw reading_is at c.shown_at-second.ensures in
    let late : c.args.since ≤ℤ c.shown_at-first.result =
    omega (arith, ints, c.if-since-first.true, to_z-of_z w64 c.shown_at-first.result (search rules), since_is) in
    let from = from_since c.args.before.now c.args.after.now first second
    (rw (reading_is, since_is) at c.if-passes_over.ensures) late in
    let e = Shown c.shown_at-second.result c.args.after.now in (
      e ∷ [],
      λ z has. second_alone c.args.before.now c.args.after.now first second z has late from,
      All-cons IsEntryInside e [] tt (All-nil IsEntryInside),
      rw second_is (one_shown_meant c.args.disambiguation c.shown_at-second.result c.args.after.now),
    )

pub returns-then-second-since-clause-ok : goal.returns-then-second-since-clause-ok
returns-then-second-since-clause-ok c =
    let reading_is = to_z-of_z w64 c.args.reading c.ranges.reading in
    let since_is = to_z-of_z w64 c.args.since c.ranges.since in
    let first_is = to_z-of_z w64 c.shown_at-first.result (search rules) in
    let second_is = to_z-of_z w64 c.shown_at-second.result (search rules) in
    let first = rw reading_is at c.shown_at-first.ensures in
    let second = rw reading_is at c.shown_at-second.ensures in
    let before : c.shown_at-first.result <ℤ c.args.since =
    omega (arith, ints, c.if-since-first.false, first_is, since_is) in
    let early : c.shown_at-second.result <ℤ c.args.since =
    omega (arith, ints, c.if-second-since.true, second_is, since_is) in
    let e = Shown c.shown_at-first.result c.args.before.now in (
      e ∷ [],
      λ z has. first_alone c.args.before.now c.args.after.now first second z has before early,
      All-cons IsEntryInside e [] tt (All-nil IsEntryInside),
      rw first_is (one_shown_meant c.args.disambiguation c.shown_at-first.result c.args.before.now),
    )

pub returns-clause-ok : goal.returns-clause-ok
returns-clause-ok c =
    let reading_is = to_z-of_z w64 c.args.reading c.ranges.reading in
    let since_is = to_z-of_z w64 c.args.since c.ranges.since in
    let first_is = to_z-of_z w64 c.shown_at-first.result (search rules) in
    let second_is = to_z-of_z w64 c.shown_at-second.result (search rules) in
    let first = rw reading_is at c.shown_at-first.ensures in
    let second = rw reading_is at c.shown_at-second.ensures in
    let before : c.shown_at-first.result <ℤ c.args.since =
    omega (arith, ints, c.if-since-first.false, first_is, since_is) in
    let from : c.args.since ≤ℤ c.shown_at-second.result =
    omega (arith, ints, c.if-second-since.false, second_is, since_is) in
    let e = Shown c.shown_at-first.result c.args.before.now in
    let f = Shown c.shown_at-second.result c.args.after.now in (
      e ∷ f ∷ [],
      λ z has. both c.args.before.now c.args.after.now first second z has before from,
      All-cons IsEntryInside e (f ∷ []) tt (All-cons IsEntryInside f [] tt (All-nil IsEntryInside)),
      elim c.match-disambiguation-2.branch [
        | in-Compatible-disambiguation w ↦ rw (w.result-is, w.in-Compatible-disambiguation.is, first_is) refl
        | in-Earlier-disambiguation w ↦ rw (w.result-is, w.in-Earlier-disambiguation.is, first_is) refl
        | in-Later-disambiguation w ↦ rw (w.result-is, w.in-Later-disambiguation.is, second_is) refl
        | in-Reject-disambiguation w ↦ rw (w.result-is, w.in-Reject-disambiguation.is) refl
      ],
    )
