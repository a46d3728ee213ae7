-- Right after the last instant that has a leap time none has one.
use Rattle.tz_zone.proofs.Common.{◌≡◌, arith, to_z-of_z, rules, ints, w64, refl, inr, ℤ, ◌≤ℤ◌, ◌<ℤ◌, pos, ◌+ℤ◌, SFits, to_z, of_z, IsPastInstants}
use Rattle.tz_zone.proofs.LeapTimes.{IsInstant-from_bounds, instant_bounds, past_later}
use Rattle.tz_zone.proofs.LeapReached.{after_last, last_is_far, past_if_begun}
use Rattle.tz_zone.proofs.clock.segment.first_past.Goals as goal

-- what comes after the last instant is one, which is past it
record IsNext (past : ℤ → Type 0) (last next u : ℤ) : Type 0 where
  pub is : next ≡ last +ℤ pos 1
  pub up_to : next ≤ℤ u
  pub is_past : past next

next_is : (past : ℤ → Type 0) (last u : ℤ) → SFits w64 last → SFits w64 u → last <ℤ u
    → ((w : ℤ) → last <ℤ w → w ≤ℤ pos 9223372036854775807 → past w)
    → IsNext past last (to_z w64 (of_z w64 (to_z w64 (of_z w64 last) +ℤ pos 1))) u
next_is past last u fits u_fits before all =
    let high = instant_bounds u u_fits in
    let sum : SFits w64 (last +ℤ pos 1) = IsInstant-from_bounds (last +ℤ pos 1)
    (omega (arith, ints, instant_bounds last fits)) (omega (arith, ints, before, high.1)) in
    rw (to_z-of_z w64 last fits, to_z-of_z w64 (last +ℤ pos 1) sum) (record {
      is = refl;
      up_to = omega (arith, ints, before);
      is_past = all (last +ℤ pos 1) (omega (arith, ints)) (omega (arith, ints, before, high.1));
    })

next_of : (c : goal.After-last_instant) → IsNext (IsPastInstants c.args.leap_seconds.now) c.last_instant.result
    (to_z w64 (of_z w64 (to_z w64 (of_z w64 c.last_instant.result) +ℤ pos 1))) c.args.unix_time
next_of c =
    let leaps = c.args.leap_seconds.now in
    let u = c.args.unix_time in
    let past = past_if_begun leaps c.requires.leaps u c.requires.begun c.requires.refused in
    next_is (IsPastInstants leaps) c.last_instant.result u (search rules) c.ranges.unix_time
    (after_last leaps c.requires.leaps c.last_instant.result u c.last_instant.ensures.within past)
    c.last_instant.ensures.past

pub overflow_add-result : goal.overflow_add-result
overflow_add-result c =
    let last = c.last_instant.result in
    let u = c.args.unix_time in
    let before = after_last c.args.leap_seconds.now c.requires.leaps last u c.last_instant.ensures.within
    (past_if_begun c.args.leap_seconds.now c.requires.leaps u c.requires.begun c.requires.refused) in
    rw (to_z-of_z w64 last (search rules))
    (IsInstant-from_bounds (last +ℤ pos 1) (omega (arith, ints, instant_bounds last (search rules)))
    (omega (arith, ints, before, instant_bounds u c.ranges.unix_time)))

pub returns : goal.returns
returns c =
    let next = next_of c in
    record {
      up_to = next.up_to;
      far = omega (
        arith,
        ints,
        next.is,
        last_is_far c.args.leap_seconds.now c.requires.leaps c.last_instant.result
            c.last_instant.ensures.past,
      );
      refused = λ v from. inr (past_later c.args.leap_seconds.now c.requires.leaps _ v from next.is_past);
    }
