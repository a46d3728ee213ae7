-- The type shows the reading after the span, or before it and after that of the type before.
use Rattle.tz.proofs.Common.{arith, refl, ints, inl, [], ap, to_z-of_z, rules, w64, borrowed_type}
use Rattle.tz.proofs.EntryWalks.{none_beside, none_first, none_late}
use Rattle.tz.proofs.datetime.gaps_and_folds.give.Goals as goal
use Rattle.tz.proofs.datetime.gaps_and_folds.give.Goals.{else-since-unix_time-via-then-since-unix_time+else-unix_time-last, else-since-unix_time-via-else-since-unix_time}

pub returns-in_default-before-clause-ok : goal.returns-in_default-before-clause-ok
returns-in_default-before-clause-ok g c =
    let u = c.shown_at-unix_time.result in
    let unix_time_is = to_z-of_z w64 u (search rules) in
    let since_is = to_z-of_z w64 c.args.since c.ranges.since in
    let last_is = to_z-of_z w64 c.args.last c.ranges.last in
    let reading_is = to_z-of_z w64 c.args.reading c.ranges.reading in
    let at = rw reading_is at c.shown_at-unix_time.ensures in (
      [],
      c.requires.takes.is_taker.none c.args.entries.now,
      inl (
        refl,
        elim c.else-since-unix_time.branch [
          | else-since-unix_time-via-then-since-unix_time+else-unix_time-last w ↦
              none_late c.args.reading (borrowed_type c.args.before) c.args.since (borrowed_type c.args.local_time_type)
              c.args.last c.in-Some.after.now u (ap borrowed_type c.in-Some.is) at
              (omega (arith, ints, w.if-since-unix_time.true, since_is, unix_time_is))
              (omega (arith, ints, w.if-unix_time-last.false, last_is, unix_time_is))
          | else-since-unix_time-via-else-since-unix_time w ↦
              none_beside c.args.reading (borrowed_type c.args.before) c.args.since
              (borrowed_type c.args.local_time_type) c.args.last c.in-Some-before.before.now
              c.in-Some.after.now u (ap borrowed_type c.in-Some-before.is)
              (ap borrowed_type c.in-Some.is)
              at (omega (arith, ints, w.if-since-unix_time.false, since_is, unix_time_is))
              (rw (reading_is, since_is) at c.if-passes_over.ensures)
        ],
      ),
    )

pub returns-in_default-before-2-clause-ok : goal.returns-in_default-before-2-clause-ok
returns-in_default-before-2-clause-ok g c =
    let u = c.shown_at-unix_time.result in
    let unix_time_is = to_z-of_z w64 u (search rules) in
    let since_is = to_z-of_z w64 c.args.since c.ranges.since in
    let last_is = to_z-of_z w64 c.args.last c.ranges.last in
    let at = rw (to_z-of_z w64 c.args.reading c.ranges.reading) at c.shown_at-unix_time.ensures in (
      [],
      c.requires.takes.is_taker.none c.args.entries.now,
      inl (
        refl,
        elim c.else-since-unix_time.branch [
          | else-since-unix_time-via-then-since-unix_time+else-unix_time-last w ↦
              none_late c.args.reading (borrowed_type c.args.before) c.args.since (borrowed_type c.args.local_time_type)
              c.args.last c.in-Some.after.now u (ap borrowed_type c.in-Some.is) at
              (omega (arith, ints, w.if-since-unix_time.true, since_is, unix_time_is))
              (omega (arith, ints, w.if-unix_time-last.false, last_is, unix_time_is))
          | else-since-unix_time-via-else-since-unix_time w ↦
              none_first c.args.reading (borrowed_type c.args.before) c.args.since
              (borrowed_type c.args.local_time_type) c.args.last c.in-Some.after.now u
              (ap borrowed_type c.in_default-before.is) (ap borrowed_type c.in-Some.is)
              at (omega (arith, ints, w.if-since-unix_time.false, since_is, unix_time_is))
        ],
      ),
    )
