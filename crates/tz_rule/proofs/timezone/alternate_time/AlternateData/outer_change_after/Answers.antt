-- Segment for segment, to the first change or to the greatest instant.
use Rattle.tz_rule.proofs.Common.{arith, ◌≡◌, ints, pos, refl, ◌+ℤ◌, ℤ, to_z-of_z, ◌-ℤ◌, rules, w64, Alternate, of_z, to_z, subst, type_change_of}
use Rattle.tz_rule.proofs.RuleWalks.{HasTypeOrNone, none_within, none_joined, is_change_after}
use Rattle.tz_rule.proofs.timezone.alternate_time.AlternateData.outer_change_after.Goals as goal

pub loop-segment-init : goal.loop-segment-init
loop-segment-init c =
    let s = c.segment-segment.result in
    let is = c.segment-segment.ensures in
    record {
      order = is.within.1;
      fits = search rules;
      none = none_within (Alternate c.args.self.now) (to_z w64 (of_z w64 c.args.unix_time)) s.last s.local_time_type
          (λ v low high. is.holds v (omega (arith, ints, is.within.0, low)) high);
      type = is.holds s.last (omega (arith, ints, is.within.0, is.within.1)) (omega (arith, ints));
    }

pub returns-in-Some : goal.returns-in-Some
returns-in-Some c =
    let rule = Alternate c.args.self.now in
    let s = c.loop-segment.segment in
    let so_far = rw (to_z-of_z w64 c.args.unix_time c.ranges.unix_time) at c.loop-segment.invariant in
    let fits = c.loop-segment.invariant.fits in
    let next : to_z w64 (of_z w64 (to_z w64 (of_z w64 s.last) +ℤ pos 1)) ≡ s.last +ℤ pos 1 =
    omega (arith, ints, c.loop-segment-test.true, fits) in
    let after = rw next at c.segment-after.ensures in
    let back : s.last ≡ s.last +ℤ pos 1 -ℤ pos 1 = omega (arith, ints) in
    let found = (rw next at c.in-Some.ensures) rule (omega (arith, ints, fits))
    (subst (λ (v : ℤ). HasTypeOrNone rule v s.local_time_type) back so_far.type)
    (after.holds (s.last +ℤ pos 1) after.within.0 after.within.1) in
    is_change_after rule c.args.unix_time s.last (s.last +ℤ pos 1) (type_change_of c.in-Some.change) refl so_far.order
    so_far.none found.0 found.1

pub loop-segment-preserved : goal.loop-segment-preserved
loop-segment-preserved c =
    let rule = Alternate c.args.self.now in
    let s = c.loop-segment.segment in
    let a = c.segment-after.result in
    let so_far = c.loop-segment.invariant in
    let fits = c.loop-segment.invariant.fits in
    let next : to_z w64 (of_z w64 (to_z w64 (of_z w64 s.last) +ℤ pos 1)) ≡ s.last +ℤ pos 1 =
    omega (arith, ints, c.loop-segment-test.true, fits) in
    let after = rw next at c.segment-after.ensures in
    let back : s.last ≡ s.last +ℤ pos 1 -ℤ pos 1 = omega (arith, ints) in
    let none = (rw next at c.in_default.ensures) rule (omega (arith, ints, fits))
    (subst (λ (v : ℤ). HasTypeOrNone rule v s.local_time_type) back so_far.type)
    (after.holds (s.last +ℤ pos 1) after.within.0 after.within.1) in
    record {
      order = omega (arith, ints, so_far.order, after.within.1);
      fits = search rules;
      none = none_joined rule (to_z w64 (of_z w64 c.args.unix_time)) s.last (s.last +ℤ pos 1) a.last refl so_far.none
          none
          (none_within rule (s.last +ℤ pos 1) a.last a.local_time_type
          (λ v low high. after.holds v (omega (arith, ints, after.within.0, low)) high));
      type = after.holds a.last (omega (arith, ints, after.within.0, after.within.1)) (omega (arith, ints));
    }
