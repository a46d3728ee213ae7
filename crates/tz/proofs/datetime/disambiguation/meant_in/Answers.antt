-- The clock has one type in the window, or two with a change between them, or a walk finds what is meant.
use Rattle.tz.proofs.Common.{◌≡◌, [], to_z-of_z, ◌∷◌, rules, w64, ◌-ℤ◌, zone_of_data, Shown, IfErr-weaker, All-nil, IsEntryInside, All-cons, HasTwoTypes, IfOk-weaker}
use Rattle.tz.proofs.EntryEnds.{one_shown_meant}
use Rattle.tz.proofs.EntryWalks.{entries_once}
use Rattle.tz.proofs.datetime.disambiguation.meant_in.Goals as goal

pub returns-in-One-clause-ok : goal.returns-in-One-clause-ok
returns-in-One-clause-ok c =
    let z = zone_of_data c.args.zone.now in
    let r = c.args.reading in
    let low = c.window_of-low.result.0 in
    let high = c.window_of-low.result.1 in
    let reading_is = to_z-of_z w64 r c.ranges.reading in
    let low_is = to_z-of_z w64 low (search rules) in
    let high_is = to_z-of_z w64 high (search rules) in
    let s = rw reading_is at c.window_of-low.ensures.searchable in
    let t = c.in-One.local_time_type.now in
    let u = c.shown_at-unix_time.result in
    let u_is = to_z-of_z w64 u (search rules) in
    let at : u ≡ r -ℤ t.ut_offset = rw reading_is at c.shown_at-unix_time.ensures in
    let types = rw (low_is, high_is) at c.in-One.ensures.types in
    let once = entries_once z s.sound.leap_seconds_are r low high t u s.order s.offsets types at in (
      Shown u t ∷ [],
      once,
      All-cons IsEntryInside (Shown u t) [] tt (All-nil IsEntryInside),
      rw u_is (one_shown_meant c.args.disambiguation u t),
    )

pub returns-in-Two : goal.returns-in-Two
returns-in-Two c =
    let z = zone_of_data c.args.zone.now in
    let r = c.args.reading in
    let low = c.window_of-low.result.0 in
    let high = c.window_of-low.result.1 in
    let reading_is = to_z-of_z w64 r c.ranges.reading in
    let low_is = to_z-of_z w64 low (search rules) in
    let high_is = to_z-of_z w64 high (search rules) in
    let s = rw reading_is at c.window_of-low.ensures.searchable in
    let change_is = to_z-of_z w64 c.in-Two.unix_time (search rules) in
    let has : HasTwoTypes z r c.in-Two.unix_time c.in-Two.before.now c.in-Two.after.now = record {
      leap_seconds_are = s.sound.leap_seconds_are;
      low = low;
      high = high;
      offsets_are = s.offsets;
      types_are = (rw (low_is, high_is) at c.in-Two.ensures.types);
    } in
    record {
      ok = IfOk-weaker c.meant_around.result _ _ (λ meant around. (around.0, around.1 z has, around.2, around.3))
          (rw (reading_is, change_is) at c.meant_around.ensures.ok);
      err = IfErr-weaker c.meant_around.result _ _ (λ e refused. (refused.0, refused.2 z has, refused.1))
          (rw (reading_is, change_is) at c.meant_around.ensures.err);
    }
