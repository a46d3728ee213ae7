-- The second before the first instant that is not before the start, which comes later.
use Rattle.tz_zone.proofs.Common.{◌≡◌, arith, to_z-of_z, rules, ints, w64, ℤ, List, ◌≤ℤ◌, ◌<ℤ◌, pos, ◌-ℤ◌, ◌+ℤ◌, SFits, by_lt_z, LeapSecond, IsBeforeStart}
use Rattle.tz_zone.proofs.LeapTimes.{IsInstant-from_bounds, instant_bounds}
use Rattle.tz_zone.proofs.clock.segment.last_before_start.Goals as goal

-- before an instant that lies before the start all do
all_before : (leaps : List LeapSecond) (u v : ℤ) → IsBeforeStart leaps u → v ≤ℤ u → IsBeforeStart leaps v
all_before leaps u v early up_to = (early.0, early.1, omega (arith, ints, up_to, early.2))

-- the first one that does not comes later, so that the second before it is an instant
module _ (leaps : List LeapSecond) (u first : ℤ) (early : IsBeforeStart leaps u) (found : (u ≤ℤ first)
    × (¬ IsBeforeStart leaps first) × ((v : ℤ) → u ≤ℤ v → v <ℤ first → IsBeforeStart leaps v)) where
  later : u <ℤ first
  later = by_lt_z u first (λ h. h) (λ h. absurd (found.1 (all_before leaps u first early h)))

  fits_before : SFits w64 u → SFits w64 first → SFits w64 (first -ℤ pos 1)
  fits_before fits_u fits = IsInstant-from_bounds (first -ℤ pos 1) (omega (arith, ints, later, instant_bounds u fits_u))
      (omega (arith, ints, instant_bounds first fits))

pub returns : goal.returns
returns c =
    let leaps = c.args.leap_seconds.now in
    let u = c.args.unix_time in
    let first = c.in-Some.first in
    let fits : SFits w64 first = search rules in
    let found = rw (to_z-of_z w64 u c.ranges.unix_time) at c.in-Some.ensures in
    let back : first -ℤ pos 1 +ℤ pos 1 ≡ first = omega (arith, ints) in
    rw (
      to_z-of_z w64 first fits,
      to_z-of_z w64 (first -ℤ pos 1)
          (fits_before leaps u first c.requires found c.ranges.unix_time fits),
    ) (record {
      from = omega (arith, ints, later leaps u first c.requires found);
      before = λ v up_to. by_lt_z v u (λ h. all_before leaps u v c.requires (omega (arith, ints, h)))
          (λ h. found.2 v h (omega (arith, ints, up_to)));
      begun = λ inside. rw back found.1;
    })
