-- The clock has the segment's type as far from each reading of the stretch as offsets go.
use Rattle.tz.proofs.Common.{arith, ◌≡◌, ◌∙◌, ints, sym, ap, to_z-of_z, rules, Some, w64, w32, ◌≤ℤ◌, ◌+ℤ◌, IsReading, zone_of_data}
use Rattle.std.specs.Option.{option_copied}
use Rattle.tz_zone.specs.Changes.{segment_of}
use Rattle.tz.proofs.ColumnAnswers.{type_in}
use Rattle.tz.proofs.ReadingInstants.{means_by_one}
use Rattle.tz.proofs.ReadingWindows.{clock_between}
use Rattle.tz.proofs.columns.instants.stretch_around.Goals as goal

pub last_reading-requires : goal.last_reading-requires
last_reading-requires c = omega (
  arith,
  ints,
  c.segment_at-segment.ensures.within.1,
  c.last.ensures,
  to_z-of_z w64 c.last.result (search rules),
  c.shown_by.ensures,
  to_z-of_z w64 c.shown_by.result (search rules),
  to_z-of_z w64 c.args.reading c.ranges.reading,
  to_z-of_z w32 c.offsets-least.result.1 (search rules),
  c.requires.0,
)

pub returns-in-Some : goal.returns-in-Some
returns-in-Some c r choice from last =
    let z = zone_of_data c.args.zone.now in
    let least = c.offsets-least.result.0 in
    let greatest = c.offsets-least.result.1 in
    let ends = c.offsets-least.ensures in
    let s = segment_of c.segment_at-segment.result in
    let t = c.in-Some.local_time_type.now in
    let is : s.local_time_type ≡ Some t = sym c.local_time_type.ensures ∙ ap option_copied c.in-Some.is in
    let first_is = to_z-of_z w64 c.first_reading.result (search rules) in
    let last_is = to_z-of_z w64 c.last_reading.result (search rules) in
    let after : (s.from +ℤ greatest) ≤ℤ r = omega (
      arith,
      ints,
      from,
      first_is,
      c.first_reading.ensures.after,
      c.from.ensures,
      to_z-of_z w64 c.from.result (search rules),
      to_z-of_z w32 greatest (search rules),
    ) in
    let before : r ≤ℤ (s.last +ℤ least) = omega (
      arith,
      ints,
      last,
      last_is,
      c.last_reading.ensures.after,
      c.last.ensures,
      to_z-of_z w64 c.last.result (search rules),
      to_z-of_z w32 least (search rules),
    ) in
    let in_range : IsReading r = (
      omega (arith, ints, from, first_is, c.first_reading.ensures.in_range),
      omega (arith, ints, last, last_is, c.last_reading.ensures.in_range),
    ) in
    let means = means_by_one z choice r in_range least greatest t c.args.zone.now.sound.leap_seconds_are
    (ends.0.1 greatest ends.1.0) (clock_between z least greatest ends.0 ends.1)
    (λ u low high. type_in z s u t c.segment_at-segment.ensures.segment (omega (arith, ints, after, low))
    (omega (arith, ints, before, high)) is) in
    rw (to_z-of_z w32 c.ut_offset.result (search rules), c.ut_offset.ensures.value) means
