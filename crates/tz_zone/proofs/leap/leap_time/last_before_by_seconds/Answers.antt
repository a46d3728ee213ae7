-- The lesser of the second before the effect and the last instant that has a leap time.
use Rattle.tz_zone.proofs.Common.{◌≡◌, arith, to_z-of_z, rules, ints, w64, inr, inl, ℤ, ◌≤ℤ◌, ◌<ℤ◌, pos, ◌-ℤ◌, SFits, negsuc, to_z, ◌⊎◌, of_z, IsInstant, w128, int_min}
use Rattle.tz_zone.proofs.LeapTimes.{IsInstant-from_bounds}
use Rattle.tz_zone.proofs.OffsetBounds.{int_min_either}
use Rattle.tz_zone.proofs.InstantsWithLeapTime.{effect_ahead}
use Rattle.tz_zone.proofs.LeapReached.{last_before_by_seconds}
use Rattle.tz_zone.proofs.leap.leap_time.last_before_by_seconds.Goals as goal

-- the end of the search, the lesser of the second before the effect and the greatest instant
record IsEnd (m high : ℤ) : Type 0 where
  pub one : (high ≡ m -ℤ pos 1) ⊎ (high ≡ pos 9223372036854775807)
  pub bound : high ≤ℤ (m -ℤ pos 1)
  pub fits : IsInstant high

end_is : (u m n f : ℤ) → negsuc 9223372036854775807 ≤ℤ u → u <ℤ m → SFits w128 m
    → n ≡ int_min (to_z w128 (of_z w128 (to_z w128 (of_z w128 m) -ℤ pos 1))) (to_z w128 (of_z w128 f))
    → f ≡ pos 9223372036854775807
    → n ≤ℤ to_z w128 (of_z w128 (to_z w128 (of_z w128 m) -ℤ pos 1)) → n ≤ℤ to_z w128 (of_z w128 f) → IsEnd m n
end_is u m n f low ahead wide value f_is bound end =
    let before : to_z w128 (of_z w128 (to_z w128 (of_z w128 m) -ℤ pos 1)) ≡ m -ℤ pos 1 =
    omega (arith, ints, low, ahead) in
    let greatest : to_z w128 (of_z w128 f) ≡ pos 9223372036854775807 = omega (arith, ints, f_is) in
    let either = int_min_either (to_z w128 (of_z w128 (to_z w128 (of_z w128 m) -ℤ pos 1))) (to_z w128 (of_z w128 f)) in
    let one : (n ≡ m -ℤ pos 1) ⊎ (n ≡ pos 9223372036854775807) = elim either [
      | inl e ↦ inl (omega (arith, ints, value, e, before))
      | inr e ↦ inr (omega (arith, ints, value, e, greatest))
    ] in
    record {
      one = one;
      bound = omega (arith, ints, bound, before);
      fits = IsInstant-from_bounds n (elim one [
        | inl e ↦ omega (arith, ints, e, low, ahead)
        | inr e ↦ omega (arith, ints, e)
      ]) (omega (arith, ints, end, greatest));
    }

pub overflow_cast-last : goal.overflow_cast-last
overflow_cast-last c =
    let wide = rw (to_z-of_z w64 c.args.unix_leap_time c.ranges.unix_leap_time) at c.wide_effect-before.ensures in
    let u = c.requires.before in
    let ahead = effect_ahead c.args.leap_seconds.now c.requires.leaps u.0 c.args.unix_leap_time
    c.wide_effect-before.result u.2 u.3 wide in
    let end = end_is u.0 c.wide_effect-before.result c.min-last.result c.from.result u.1 ahead
    (search rules) c.min-last.ensures.value c.from.ensures c.min-last.ensures.self_bound
    c.min-last.ensures.other_bound in
    rw (to_z-of_z w128 c.min-last.result (search rules)) end.fits

pub returns : goal.returns
returns c =
    let leaps = c.args.leap_seconds.now in
    let v = c.args.unix_leap_time in
    let m = c.wide_effect-before.result in
    let n = c.min-last.result in
    let wide = rw (to_z-of_z w64 v c.ranges.unix_leap_time) at c.wide_effect-before.ensures in
    let u = c.requires.before in
    let ahead = effect_ahead leaps c.requires.leaps u.0 v m u.2 u.3 wide in
    let end = end_is u.0 m n c.from.result u.1 ahead (search rules) c.min-last.ensures.value c.from.ensures
    c.min-last.ensures.self_bound c.min-last.ensures.other_bound in
    let last = rw (to_z-of_z w128 n (search rules), to_z-of_z w64 n end.fits) at c.last_instant_up_to.ensures in
    rw (to_z-of_z w64 c.last_instant_up_to.result (search rules))
    (last_before_by_seconds leaps v m c.last_instant_up_to.result n wide last.up_to end.one end.bound last.within
    last.past)
