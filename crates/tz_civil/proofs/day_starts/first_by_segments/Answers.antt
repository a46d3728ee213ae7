-- From span to span, up to the start of the day.
use Rattle.std.proofs.Common.{◌≡◌, pos, ◌+ℤ◌, ◌-ℤ◌, ◌≤ℤ◌, arith, rules, sym, ap, ◌∙◌, Some, None, to_z, of_z}
use Rattle.std.specs.Option.{option_copied}
use Rattle.std.proofs.lemmas.Int.{ints, clamps, to_z-of_z}
use mir.Syntax.{w64}
use Rattle.tz_zone.specs.Changes.{segment_of}
use Rattle.tz_zone.specs.ZoneOfData.{zone_of_data}
use Rattle.tz.proofs.EntryWalks.{room_less}
use Rattle.tz_civil.proofs.DayWalks.{IsWalked, fits_from_bounds, skips, starts, through, walk_begins, walked_none, walked_some, window_order}
use Rattle.tz_civil.proofs.day_starts.first_by_segments.Goals as goal
use Rattle.tz_civil.proofs.day_starts.first_by_segments.Goals.{in-Some+in_default-first_shown, in_default}

pub loop-at-init : goal.loop-at-init
loop-at-init c =
    let z = zone_of_data c.args.zone.now in
    let day = c.args.day in
    let low = c.args.low in
    let high = c.args.high in
    let day_is = to_z-of_z w64 day c.ranges.day in
    let low_is = to_z-of_z w64 low c.ranges.low in
    let high_is = to_z-of_z w64 high c.ranges.high in
    rw (day_is, low_is, high_is) (walk_begins z day low high c.requires.window)

pub first_shown-requires-clause-order : goal.first_shown-requires-clause-order
first_shown-requires-clause-order c =
    omega (
      arith,
      ints,
      clamps,
      c.lesser_i64-last.ensures,
      c.last.ensures,
      c.segment_at-segment.ensures.within,
      c.loop-at-test.true,
    )

pub returns-in-Some-first_shown-clause-ok : goal.returns-in-Some-first_shown-clause-ok
returns-in-Some-first_shown-clause-ok c =
    let z = zone_of_data c.args.zone.now in
    let day = c.args.day in
    let low = c.args.low in
    let high = c.args.high in
    let day_is = to_z-of_z w64 day c.ranges.day in
    let low_is = to_z-of_z w64 low c.ranges.low in
    let high_is = to_z-of_z w64 high c.ranges.high in
    let at = c.loop-at.at in
    let walked = rw (day_is, low_is, high_is, c.loop-at.at-is) at c.loop-at.invariant in
    let s = segment_of c.segment_at-segment.result in
    let last = c.lesser_i64-last.result in
    let last_is = c.lesser_i64-last.ensures in
    let end_is = c.last.ensures in
    let within = c.segment_at-segment.ensures.within in
    let up : at ≤ℤ last = omega (arith, ints, clamps, last_is, end_is, within, c.loop-at-test.true, c.loop-at.at-is) in
    let to : last ≤ℤ high = omega (arith, ints, clamps, last_is, end_is) in
    let in_segment : last ≤ℤ s.last = omega (arith, ints, clamps, last_is, end_is) in
    let from : s.from ≤ℤ at = omega (arith, ints, within, c.loop-at.at-is) in
    let t = c.in-Some.local_time_type.now in
    let type = through z s (Some t) at last c.segment_at-segment.ensures.segment from in_segment
    (sym c.local_time_type.ensures ∙ ap option_copied c.in-Some.is) in
    let offset = c.ut_offset-offset.ensures.value in
    let some = c.in-Some-first_shown.ensures.some in
    let first = c.in-Some-first_shown.unix_time in
    rw (to_z-of_z w64 first (search rules))
    (starts z day at last first t walked.ahead type (omega (arith, ints, some.0, c.loop-at.at-is))
    (omega (arith, ints, some.1)) (omega (arith, ints, some.2, offset, c.requires.day))
    (omega (arith, ints, some.3, offset, c.requires.day))
    (λ v low below.
    omega (arith, ints, some.4 v (omega (arith, ints, low, c.loop-at.at-is)) below, offset, c.requires.day)))

pub overflow_add-at : goal.overflow_add-at
overflow_add-at c =
    fits_from_bounds _ (omega (arith, ints))
    (omega (arith, ints, clamps, c.lesser_i64-last.ensures, c.last.ensures, c.requires.small))

pub loop-at-smaller : goal.loop-at-smaller
loop-at-smaller c =
    let high = to_z w64 (of_z w64 c.args.high) in
    let next = to_z w64 (of_z w64 (to_z w64 (of_z w64 c.lesser_i64-last.result) +ℤ pos 1)) in
    room_less (high +ℤ pos 1 -ℤ to_z w64 c.loop-at.at-bits) (high +ℤ pos 1 -ℤ next)
    (omega (arith, ints, c.loop-at-test.true))
    (omega (
      arith,
      ints,
      clamps,
      c.lesser_i64-last.ensures,
      c.last.ensures,
      c.segment_at-segment.ensures.within,
      c.loop-at-test.true,
      c.requires.small,
    ))

pub loop-at-preserved : goal.loop-at-preserved
loop-at-preserved c =
    let z = zone_of_data c.args.zone.now in
    let day = c.args.day in
    let low = c.args.low in
    let high = c.args.high in
    let day_is = to_z-of_z w64 day c.ranges.day in
    let low_is = to_z-of_z w64 low c.ranges.low in
    let high_is = to_z-of_z w64 high c.ranges.high in
    let at = c.loop-at.at in
    let walked = rw (day_is, low_is, high_is, c.loop-at.at-is) at c.loop-at.invariant in
    let s = segment_of c.segment_at-segment.result in
    let last = c.lesser_i64-last.result in
    let last_is = c.lesser_i64-last.ensures in
    let end_is = c.last.ensures in
    let within = c.segment_at-segment.ensures.within in
    let up : at ≤ℤ last = omega (arith, ints, clamps, last_is, end_is, within, c.loop-at-test.true, c.loop-at.at-is) in
    let to : last ≤ℤ high = omega (arith, ints, clamps, last_is, end_is) in
    let in_segment : last ≤ℤ s.last = omega (arith, ints, clamps, last_is, end_is) in
    let from : s.from ≤ℤ at = omega (arith, ints, within, c.loop-at.at-is) in
    let next_is : to_z w64 (of_z w64 (to_z w64 (of_z w64 last) +ℤ pos 1)) ≡ last +ℤ pos 1 =
    omega (arith, ints, to, c.requires.small) in
    let true_segment = c.segment_at-segment.ensures.segment in
    let type_is = c.local_time_type.ensures in
    let next : IsWalked z day low high (last +ℤ pos 1) c.match-local_time_type.has_type =
    elim c.match-local_time_type.branch [
      | in-Some+in_default-first_shown w ↦
          let t = w.in-Some.local_time_type.now in
          let type = through z s (Some t) at last true_segment from in_segment
          (sym type_is ∙ ap option_copied w.in-Some.is) in
          let offset = w.ut_offset-offset.ensures.value in
          rw w.has_type-is
          (walked_some z day low high at last c.loop-at.has_type t walked up to type
          (λ v from_at to_last begun.
          omega (
            arith,
            ints,
            w.in_default-first_shown.ensures.none v (omega (arith, ints, from_at, c.loop-at.at-is))
                (omega (arith, ints, to_last)) (omega (arith, ints, begun, offset, c.requires.day)),
            offset,
            c.requires.day,
          )))
      | in_default w ↦
          rw w.has_type-is
          (walked_none z day low high at last c.loop-at.has_type walked up to
          (through z s None at last true_segment from in_segment (sym type_is ∙ ap option_copied w.in_default.is)))
    ] in
    rw (day_is, low_is, high_is, next_is) next

pub returns-then-has_type-clause-ok : goal.returns-then-has_type-clause-ok
returns-then-has_type-clause-ok c =
    let z = zone_of_data c.args.zone.now in
    let day = c.args.day in
    let low = c.args.low in
    let high = c.args.high in
    let day_is = to_z-of_z w64 day c.ranges.day in
    let low_is = to_z-of_z w64 low c.ranges.low in
    let high_is = to_z-of_z w64 high c.ranges.high in
    let at = c.loop-at.at in
    let walked = rw (day_is, low_is, high_is, c.loop-at.at-is) at c.loop-at.invariant in
    skips z day low high at c.requires.window walked.ahead (omega (arith, ints, c.loop-at-test.false, c.loop-at.at-is))
    (walked.some c.if-has_type.true)

pub returns-in-Ok-clause-ok : goal.returns-in-Ok-clause-ok
returns-in-Ok-clause-ok c =
    let z = zone_of_data c.args.zone.now in
    let day = c.args.day in
    let low = c.args.low in
    let high = c.args.high in
    let day_is = to_z-of_z w64 day c.ranges.day in
    let low_is = to_z-of_z w64 low c.ranges.low in
    let high_is = to_z-of_z w64 high c.ranges.high in
    let at = c.loop-at.at in
    let walked = rw (day_is, low_is, high_is, c.loop-at.at-is) at c.loop-at.invariant in
    let order = window_order z day low high c.requires.window in
    skips z day low high at c.requires.window walked.ahead (omega (arith, ints, c.loop-at-test.false, c.loop-at.at-is))
    (low, omega (arith, ints), order, c.in-Ok.field-0.now, rw low_is at c.in-Ok.ensures.ok)

pub returns-in-Err-clause-err : goal.returns-in-Err-clause-err
returns-in-Err-clause-err c =
    let z = zone_of_data c.args.zone.now in
    let day = c.args.day in
    let low = c.args.low in
    let high = c.args.high in
    let day_is = to_z-of_z w64 day c.ranges.day in
    let low_is = to_z-of_z w64 low c.ranges.low in
    let high_is = to_z-of_z w64 high c.ranges.high in
    let at = c.loop-at.at in
    let walked = rw (day_is, low_is, high_is, c.loop-at.at-is) at c.loop-at.invariant in
    record {
      low = low;
      high = high;
      window = c.requires.window;
      never = λ u from to. walked.none c.if-has_type.false u from
          (omega (arith, ints, to, c.loop-at-test.false, c.loop-at.at-is));
      fault = rw low_is at c.in-Err.ensures.err;
    }
