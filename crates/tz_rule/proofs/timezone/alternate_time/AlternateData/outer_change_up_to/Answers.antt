-- Segment for segment, to the last change or to the least instant.
use Rattle.tz_rule.proofs.Common.{arith, ◌≡◌, ints, pos, to_z-of_z, ◌-ℤ◌, rules, w64, Alternate, of_z, to_z, type_change_of}
use Rattle.tz_rule.proofs.RuleWalks.{none_within, none_joined, is_change_up_to}
use Rattle.tz_rule.proofs.timezone.alternate_time.AlternateData.outer_change_up_to.Goals as goal

pub loop-segment-init : goal.loop-segment-init
loop-segment-init c =
    let s = c.segment-segment.result in
    let is = c.segment-segment.ensures in
    record {
      order = is.within.0;
      fits = search rules;
      none = none_within (Alternate c.args.self.now) s.from (to_z w64 (of_z w64 c.args.unix_time)) s.local_time_type
          (λ v low high. is.holds v low (omega (arith, ints, is.within.1, high)));
      type = is.holds s.from (omega (arith, ints)) (omega (arith, ints, is.within.0, is.within.1));
    }

pub returns-in-Some : goal.returns-in-Some
returns-in-Some c =
    let rule = Alternate c.args.self.now in
    let s = c.loop-segment.segment in
    let b = c.segment-before.result in
    let so_far = rw (to_z-of_z w64 c.args.unix_time c.ranges.unix_time) at c.loop-segment.invariant in
    let fits = c.loop-segment.invariant.fits in
    let earlier : to_z w64 (of_z w64 (to_z w64 (of_z w64 s.from) -ℤ pos 1)) ≡ s.from -ℤ pos 1 =
    omega (arith, ints, c.loop-segment-test.true, fits) in
    let before = rw earlier at c.segment-before.ensures in
    let found = (rw (to_z-of_z w64 s.from fits) at c.in-Some.ensures) rule
    (omega (arith, ints, c.loop-segment-test.true, fits))
    (before.holds (s.from -ℤ pos 1) before.within.0 before.within.1) so_far.type in
    is_change_up_to rule c.args.unix_time s.from (type_change_of c.in-Some.change) so_far.order so_far.none found.0
    found.1

pub loop-segment-preserved : goal.loop-segment-preserved
loop-segment-preserved c =
    let rule = Alternate c.args.self.now in
    let u = to_z w64 (of_z w64 c.args.unix_time) in
    let s = c.loop-segment.segment in
    let b = c.segment-before.result in
    let so_far = c.loop-segment.invariant in
    let fits = c.loop-segment.invariant.fits in
    let earlier : to_z w64 (of_z w64 (to_z w64 (of_z w64 s.from) -ℤ pos 1)) ≡ s.from -ℤ pos 1 =
    omega (arith, ints, c.loop-segment-test.true, fits) in
    let before = rw earlier at c.segment-before.ensures in
    let none = (rw (to_z-of_z w64 s.from fits) at c.in_default.ensures) rule
    (omega (arith, ints, c.loop-segment-test.true, fits))
    (before.holds (s.from -ℤ pos 1) before.within.0 before.within.1) so_far.type in
    record {
      order = omega (arith, ints, so_far.order, before.within.0);
      fits = search rules;
      none = none_joined rule b.from (s.from -ℤ pos 1) s.from u (omega (arith, ints))
          (none_within rule b.from (s.from -ℤ pos 1) b.local_time_type
          (λ v low high. before.holds v low (omega (arith, ints, before.within.1, high)))) none so_far.none;
      type = before.holds b.from (omega (arith, ints)) (omega (arith, ints, before.within.0, before.within.1));
    }
