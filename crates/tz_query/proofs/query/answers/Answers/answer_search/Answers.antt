-- The clock has the type that is kept throughout the window, or what the search finds there is printed.
use Rattle.tz_query.proofs.Common.{sym, subst, refl, arith, [], ◌∷◌, rules, to_z-of_z, w64, zone_of, Zone, ints, IsClock, Search, IfOk-weaker, SFits, with_nanoseconds, AreEntries, Shown, AreTypesIn, IsSearchable, ◌-ℤ◌}
use Rattle.tz_zone.specs.declared.clock.window_types.WindowTypes.{WindowTypes}
use Rattle.tz.proofs.EntryWalks.{entries_once}
use Rattle.tz_query.proofs.AddedText.{answered_after}
use Rattle.tz_query.proofs.EntryLines.{shown_once}
use Rattle.tz_query.proofs.query.answers.Answers.answer_search.Goals as goal

pub returns-then-has : goal.returns-then-has
returns-then-has g c =
    let z = zone_of c.args.self.now.zone in
    let r = c.reading-reading.result in
    let fits : SFits w64 r = record { sfits = c.reading-reading.type_inv } in
    let t = c.args.self.now.segment.suffix.local_time_type in
    let u = r -ℤ t.ut_offset in
    let low = c.window_of-low.result.0 in
    let high = c.window_of-low.result.1 in
    let window = subst (λ (x : Zone). IsSearchable x r low high) c.of.ensures
    (rw (to_z-of_z w64 r fits) at c.window_of-low.ensures.searchable) in
    let within = rw (to_z-of_z w64 low (search rules), to_z-of_z w64 high (search rules)) at (c.if-has.ensures refl) in
    let all : AreEntries (IsClock z) r (Shown u t ∷ []) =
    entries_once z window.sound.leap_seconds_are r low high t u window.order window.offsets
    (λ v from until. c.requires v (omega (arith, ints, within.0, from)) (omega (arith, ints, within.1, until)))
    refl in
    IfOk-weaker c.push_shown.result _ _
    (λ done adds. shown_once c.args.fields.now c.args.nanoseconds.now r t u c.in-Ok.ensures.ok
    (sym c.reading-reading.ensures.value) all (record { zone_is = refl; sound = λ s. s; text_is = adds u }))
    c.push_shown.ensures.text

pub returns : goal.returns
returns g c =
    let r = c.reading-reading.result in
    let fits : SFits w64 r = record { sfits = c.reading-reading.type_inv } in
    let low = c.window_of-low.result.0 in
    let high = c.window_of-low.result.1 in
    let r_is = to_z-of_z w64 r fits in
    let low_is = to_z-of_z w64 low (search rules) in
    let high_is = to_z-of_z w64 high (search rules) in
    let kept = c.type_in_window.ensures.kept in
    let here = subst (λ (x : Zone). IsSearchable x r low high) c.of.ensures
    (rw r_is at c.window_of-low.ensures.searchable) in
    let window = subst (λ zone. IsSearchable (zone_of zone) r low high) (sym kept.zone_is) here in
    let z = zone_of c.type_in_window.new.self.zone in
    let f = c.args.fields.now in
    let nanoseconds = c.args.nanoseconds.now in
    let t = c.in-Some.local_time_type.now in
    let u = r -ℤ t.ut_offset in
    let through = rw (low_is, high_is) at c.in-Some.ensures.some in
    let all : AreEntries (IsClock z) r (Shown u t ∷ []) =
    entries_once z window.sound.leap_seconds_are r low high t u window.order window.offsets through refl in
    answered_after _ (Search (with_nanoseconds f nanoseconds)) c.push_shown-2.result kept
    (IfOk-weaker c.push_shown-2.result _ _
    (λ done adds. shown_once f nanoseconds r t u c.in-Ok.ensures.ok (sym c.reading-reading.ensures.value) all (adds u))
    c.push_shown-2.ensures.text)

pub returns-in_default-type_in_window : goal.returns-in_default-type_in_window
returns-in_default-type_in_window g c =
    answered_after _ (Search (with_nanoseconds c.args.fields.now c.args.nanoseconds.now))
    c.answer_by_search-in_default-type_in_window.result
    c.type_in_window.ensures.kept
    c.answer_by_search-in_default-type_in_window.ensures
