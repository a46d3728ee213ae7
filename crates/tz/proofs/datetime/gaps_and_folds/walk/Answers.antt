-- From one span to the next, up to the end of the window.
use Rattle.tz.proofs.Common.{arith, refl, ◌≡◌, ◌∙◌, ints, inr, inl, [], to_z-of_z, rules, ◌+◌, pos, w64, IsClock, ◌≤◌, ◌++◌, ◌-ℤ◌, ◌+ℤ◌, ◌<ℤ◌, ◌≤ℤ◌, None, err_from_is_err_and, zone_of_data, SFits, borrowed_type, IsInstant-from_bounds, instant_bounds, list_of, nil_from_length, ap, length}
use Rattle.tz.proofs.EntryWalks.{few_entries, refused_there, room_less, span_holds, walked_on, walked_to_end, walked_to_first}
use Rattle.tz.proofs.WalkLooks.{looks_in_all, looks_on}
use Rattle.tz.proofs.datetime.gaps_and_folds.walk.Goals as goal

pub returns-in_default-clause-ok : goal.returns-in_default-clause-ok
returns-in_default-clause-ok g c =
    let clock = IsClock (zone_of_data c.args.zone.now) in
    let s = c.requires.searchable in
    let low = c.args.low in
    let high = c.args.high in
    let never = rw (to_z-of_z w64 low c.ranges.low) at c.in_default.ensures.stage in
    let way = walked_to_first clock low high c.args.reading s.offsets (high +ℤ pos 1) (omega (arith, ints, s.order))
    (λ u from before. never u from (omega (arith, ints, before, s.reach))) in (
      [],
      c.requires.takes.is_taker.none c.args.entries.now,
      walked_to_end clock low high c.args.reading s.offsets None
          (high +ℤ pos 1) [] way (omega (arith, ints)),
      omega arith,
    )

pub loop-since-init : goal.loop-since-init
loop-since-init g c =
    let z = zone_of_data c.args.zone.now in
    let first = c.in-Some.first in
    let fits : SFits w64 first = search rules in
    let reading_is = to_z-of_z w64 c.args.reading c.ranges.reading in
    let low_is = to_z-of_z w64 c.args.low c.ranges.low in
    let high_is = to_z-of_z w64 c.args.high c.ranges.high in
    let found = rw low_is at c.in-Some.ensures.stage in
    rw (reading_is, low_is, high_is, to_z-of_z w64 first fits) (record {
      fits = fits;
      stage = λ inside. found.1;
      found = (
        [],
        c.requires.takes.is_taker.none c.args.entries.now,
        walked_to_first (IsClock z) c.args.low c.args.high
            c.args.reading c.requires.searchable.offsets first found.0 found.2,
      );
      looks = record {
        taken = search rules;
        onward = omega arith;
        within = found.1.within;
        few = λ w most. omega arith;
      };
    })

pub span_from-span-requires-clause-view : goal.span_from-span-requires-clause-view
span_from-span-requires-clause-view g c =
    c.loop-since.invariant.looks.taken.same ∙ c.first_stage.ensures.looks.same ∙ c.requires.view

pub span_from-span-requires-clause-stage : goal.span_from-span-requires-clause-stage
span_from-span-requires-clause-stage g c =
    let first = c.in-Some.first in
    let high_is = to_z-of_z w64 c.args.high c.ranges.high in
    let first_is = to_z-of_z w64 first (search rules) in
    let so_far = rw (high_is, first_is, c.loop-since.since-is) at c.loop-since.invariant in
    rw c.loop-since.since-is (
      first,
      so_far.stage (omega (arith, ints, c.loop-since-test.true, c.loop-since.since-is, high_is)),
    )

pub returns-in_err-give-clause-err : goal.returns-in_err-give-clause-err
returns-in_err-give-clause-err g c =
    let z = zone_of_data c.args.zone.now in
    let s = c.requires.searchable in
    let since = c.loop-since.since in
    let span = c.span_from-span.result in
    let reading_is = to_z-of_z w64 c.args.reading c.ranges.reading in
    let last_is = to_z-of_z w64 span.last (search rules) in
    let low_is = to_z-of_z w64 c.args.low c.ranges.low in
    let so_far = rw (reading_is, low_is, c.loop-since.since-is) at c.loop-since.invariant in
    let holds = span_holds z s.sound.leap_seconds_are since span.last span.local_time_type
    (rw c.loop-since.since-is at c.span_from-span.ensures.holds) in
    let some : since ≤ℤ span.last = omega (arith, ints, c.if-since-span.true, c.loop-since.since-is, last_is) in
    let refused = rw (reading_is, c.loop-since.since-is, last_is) at c.in_err-give.ensures.err in
    let p = err_from_is_err_and c.from_residual.result c.from_residual.ensures.1 in
    rw (p.1, p.2) (
      refused.0,
      refused_there (IsClock z) c.args.low c.args.high c.args.reading s.offsets (borrowed_type c.loop-since.before)
          since so_far.found.0 so_far.found.2 (borrowed_type span.local_time_type) span.last holds some
          refused.0 refused.1,
      refused.2,
    )

pub loop-since-smaller-then-since-span : goal.loop-since-smaller-then-since-span
loop-since-smaller-then-since-span g c =
    let high = c.args.high in
    let since = c.loop-since.since in
    let span = c.span_from-span in
    let last = span.result.last in
    let high_is = to_z-of_z w64 high c.ranges.high in
    let last_is = to_z-of_z w64 last (search rules) in
    let up_to = rw high_is at span.ensures.up_to in
    let next_fits : SFits w64 (last +ℤ pos 1) =
    IsInstant-from_bounds (last +ℤ pos 1) (omega (arith, ints, (instant_bounds last (search rules)).0))
    (omega (arith, ints, up_to, c.requires.searchable.reach)) in
    let some : since ≤ℤ last = omega (arith, ints, c.if-since-span.true, c.loop-since.since-is, last_is) in
    let onward : c.loop-since.stage.position ≤ span.result.next.position = elim span.ensures.onward [
      | inl same ↦ omega (arith, same.0)
      | inr one ↦ omega (arith, one)
    ] in
    let less = room_less (high +ℤ pos 1 -ℤ since) (high +ℤ pos 1 -ℤ (last +ℤ pos 1)) (omega (arith, ints, some, up_to))
    (omega (arith, ints, some)) in
    rw (high_is, c.loop-since.since-is, last_is, to_z-of_z w64 (last +ℤ pos 1) next_fits) (omega (arith, less, onward))

pub loop-since-preserved-then-since-span : goal.loop-since-preserved-then-since-span
loop-since-preserved-then-since-span g c =
    let z = zone_of_data c.args.zone.now in
    let s = c.requires.searchable in
    let low = c.args.low in
    let high = c.args.high in
    let first = c.in-Some.first in
    let since = c.loop-since.since in
    let span = c.span_from-span.result in
    let last = span.last in
    let reading_is = to_z-of_z w64 c.args.reading c.ranges.reading in
    let low_is = to_z-of_z w64 low c.ranges.low in
    let high_is = to_z-of_z w64 high c.ranges.high in
    let first_is = to_z-of_z w64 first (search rules) in
    let last_is = to_z-of_z w64 last (search rules) in
    let since_is = c.loop-since.since-is in
    let begun = rw low_is at c.in-Some.ensures.stage in
    let so_far = rw (reading_is, low_is, high_is, first_is, since_is) at c.loop-since.invariant in
    let ensured = rw (high_is, since_is) at c.span_from-span.ensures in
    let list_is = so_far.looks.taken.same ∙ c.first_stage.ensures.looks.same ∙ c.requires.view in
    let inside : since ≤ℤ high = omega (arith, ints, c.loop-since-test.true, since_is, high_is) in
    let some : since ≤ℤ last = omega (arith, ints, c.if-since-span.true, since_is, last_is) in
    let next_fits : SFits w64 (last +ℤ pos 1) =
    IsInstant-from_bounds (last +ℤ pos 1) (omega (arith, ints, (instant_bounds last (search rules)).0))
    (omega (arith, ints, ensured.up_to, s.reach)) in
    let given = rw (reading_is, since_is, last_is) at c.in_ok-give.ensures.ok in
    let holds = span_holds z s.sound.leap_seconds_are since last span.local_time_type ensured.holds in
    let stage = so_far.stage inside in
    rw (reading_is, low_is, high_is, first_is, last_is, to_z-of_z w64 (last +ℤ pos 1) next_fits) (record {
      fits = next_fits;
      stage = λ within. ensured.next first (last +ℤ pos 1) stage (omega (arith, ints, some))
          (omega (arith, ints)) within;
      found = (
        so_far.found.0 ++ given.0,
        c.requires.takes.is_taker.more c.args.entries.now c.loop-since.entries c.give.new.entries so_far.found.0 given.0
            so_far.found.1 given.1,
        walked_on (IsClock z) low high c.args.reading s.offsets (borrowed_type c.loop-since.before) since so_far.found.0
            so_far.found.2 (borrowed_type span.local_time_type) last holds some given.0 given.2 (last +ℤ pos 1) refl,
      );
      looks = looks_on z s.sound low high s.reach first begun.0 c.in-Some.stage begun.1 since c.loop-since.stage stage
          inside
          span.next.position so_far.looks ensured.looks ensured.onward (rw list_is at ensured.within);
    })

pub loop-since-smaller : goal.loop-since-smaller
loop-since-smaller g c =
    let span = c.span_from-span in
    let ensured = rw c.loop-since.since-is at span.ensures in
    let last_is = to_z-of_z w64 span.result.last (search rules) in
    let past : span.result.last <ℤ c.loop-since.since =
    omega (arith, ints, c.if-since-span.false, c.loop-since.since-is, last_is) in
    let one : span.result.next.position ≡ c.loop-since.stage.position + 1 = elim ensured.onward [
      | inl same ↦ absurd (omega (arith, ints, same.1, past))
      | inr one ↦ one
    ] in
    omega (arith, one, ensured.within, ap length c.loop-since.invariant.looks.taken.same)

pub loop-since-preserved : goal.loop-since-preserved
loop-since-preserved g c =
    let s = c.requires.searchable in
    let high = c.args.high in
    let first = c.in-Some.first in
    let since = c.loop-since.since in
    let span = c.span_from-span.result in
    let reading_is = to_z-of_z w64 c.args.reading c.ranges.reading in
    let low_is = to_z-of_z w64 c.args.low c.ranges.low in
    let high_is = to_z-of_z w64 high c.ranges.high in
    let first_is = to_z-of_z w64 first (search rules) in
    let since_is = c.loop-since.since-is in
    let begun = rw low_is at c.in-Some.ensures.stage in
    let so_far = rw (reading_is, low_is, high_is, first_is, since_is) at c.loop-since.invariant in
    let ensured = rw (high_is, since_is) at c.span_from-span.ensures in
    let list_is = so_far.looks.taken.same ∙ c.first_stage.ensures.looks.same ∙ c.requires.view in
    let inside : since ≤ℤ high = omega (arith, ints, c.loop-since-test.true, since_is, high_is) in
    let stage = so_far.stage inside in
    rw (reading_is, low_is, high_is, first_is, since_is) (record {
      fits = so_far.fits;
      stage = λ within. ensured.next first since stage (omega (arith, ints))
          (omega (arith, ints, c.if-since-span.false, since_is, to_z-of_z w64 span.last (search rules))) within;
      found = so_far.found;
      looks = looks_on (zone_of_data c.args.zone.now) s.sound c.args.low high s.reach first begun.0 c.in-Some.stage
          begun.1 since c.loop-since.stage stage inside
          span.next.position so_far.looks ensured.looks ensured.onward (rw list_is at ensured.within);
    })

pub returns-clause-ok : goal.returns-clause-ok
returns-clause-ok g c =
    let clock = IsClock (zone_of_data c.args.zone.now) in
    let s = c.requires.searchable in
    let r = c.args.reading in
    let low = c.args.low in
    let high = c.args.high in
    let reading_is = to_z-of_z w64 r c.ranges.reading in
    let low_is = to_z-of_z w64 low c.ranges.low in
    let so_far = rw (reading_is, low_is, c.loop-since.since-is) at c.loop-since.invariant in
    let over : high <ℤ c.loop-since.since =
    omega (arith, ints, c.loop-since-test.false, c.loop-since.since-is, to_z-of_z w64 high c.ranges.high) in
    let es = so_far.found.0 in
    let all = walked_to_end clock low high r s.offsets (borrowed_type c.loop-since.before) c.loop-since.since es
    so_far.found.2 over in
    (es, so_far.found.1, all, few_entries clock low high r s.offsets es s.width all)

pub returns-clause-at_most : goal.returns-clause-at_most
returns-clause-at_most g c =
    let low_is = to_z-of_z w64 c.args.low c.ranges.low in
    let high_is = to_z-of_z w64 c.args.high c.ranges.high in
    let looks = rw (low_is, high_is) at c.loop-since.invariant.looks in
    λ b w bits most. looks_in_all c.args.view.now c.first_stage.new.view c.args.position _ b w bits
    c.first_stage.ensures.known c.first_stage.ensures.looks (omega (arith, looks.taken.at_most, looks.few w most))

pub returns-clause-none : goal.returns-clause-none
returns-clause-none g c = λ empty.
    let looks = c.loop-since.invariant.looks in
    let before = c.first_stage.ensures.none (nil_from_length (list_of c.args.view.now) empty) in
    omega (arith, before, looks.taken.kept, looks.taken.at_most, looks.within, empty, ap length c.requires.view)

pub give-requires : goal.give-requires
give-requires g c κs =
    let takes = c.requires.takes in
    let found = c.loop-since.invariant.found in
    let still = takes.is_taker.goes_on c.args.entries.now c.loop-since.entries found.0 c.args.reading found.1
    takes.takes_reading in
    rw (to_z-of_z w64 c.args.reading c.ranges.reading)
    ((refl, tt), (c.requires.searchable.small, record { is_taker = takes.is_taker; takes_reading = still }))
