-- The later one of the instant before the leap second is reached and of the last whose sum fits, but not past the end.
use Rattle.tz_zone.proofs.Common.{◌≡◌, arith, to_z-of_z, rules, ints, w64, refl, inr, inl, ℤ, ◌≤ℤ◌, ◌<ℤ◌, pos, ◌-ℤ◌, SFits, negsuc, slice_get_read, to_z, ◌⊎◌, of_z, w32, w128, correction_before, int_max, int_min}
use Rattle.tz_zone.proofs.LeapTimes.{IsInstant-from_bounds, instant_bounds}
use Rattle.tz_zone.proofs.OffsetBounds.{int_min_either, int_max_either}
use Rattle.tz_zone.proofs.LeapEnds.{left_within, left_past}
use Rattle.tz_zone.proofs.leap.leap_time.last_with.Goals as goal

before_cast : (t k x y l : ℤ) → SFits w64 x → SFits w32 y → x ≡ t → y ≡ k
    → l ≡ (to_z w64 (of_z w64 x) -ℤ to_z w32 (of_z w32 y)) → to_z w128 (of_z w128 (to_z w128 (of_z w128 l) -ℤ pos 1))
    ≡ (t -ℤ k -ℤ pos 1)
before_cast t k x y l fits_x fits_y x_is y_is l_is = omega (arith, ints)

fitting_cast : (k y l : ℤ) → SFits w32 y → y ≡ k → l ≡ (pos 9223372036854775807 -ℤ to_z w32 (of_z w32 y))
    → to_z w128 (of_z w128 l) ≡ (pos 9223372036854775807 -ℤ k)
fitting_cast k y l fits_y y_is l_is = omega (arith, ints)

high_cast : (h f : ℤ) → SFits w64 h → f ≡ to_z w64 (of_z w64 h) → to_z w128 (of_z w128 f) ≡ h
high_cast h f fits is = omega (arith, ints)

-- what the two comparisons give, for the last of both, the end and the lesser of these
record IsLastWith (before fitting high last : ℤ) : Type 0 where
  pub one : (last ≤ℤ before) ⊎ (last ≤ℤ fitting)
  pub up_to : last ≤ℤ high
  pub after : (u : ℤ) → last <ℤ u → u ≤ℤ high → (before <ℤ u) × (fitting <ℤ u)
  pub fits : SFits w64 last

last_is : (before fitting high k m n : ℤ) → SFits w64 high → SFits w32 k → fitting ≡ (pos 9223372036854775807 -ℤ k)
    → m ≡ int_max before fitting → before ≤ℤ m → fitting ≤ℤ m → n ≡ int_min m high → n ≤ℤ m → n ≤ℤ high
    → IsLastWith before fitting high n
last_is before fitting high k m n high_fits k_fits fitting_is max before_max fitting_max min n_max n_high = record {
  one = elim (int_max_either before fitting) [
    | inl e ↦ inl (omega (arith, ints, max, e, n_max))
    | inr e ↦ inr (omega (arith, ints, max, e, n_max))
  ];
  up_to = n_high;
  after = λ u above up_to. elim (int_min_either m high) [
    | inl e ↦ (omega (arith, ints, min, e, above, before_max), omega (arith, ints, min, e, above, fitting_max))
    | inr e ↦ absurd (omega (arith, ints, min, e, above, up_to))
  ];
  fits = IsInstant-from_bounds n (elim (int_min_either m high) [
    | inl e ↦ omega (arith, ints, min, e, fitting_max, fitting_is, at_most k k_fits)
    | inr e ↦ omega (arith, ints, min, e, instant_bounds high high_fits)
  ]) (omega (arith, ints, n_high, instant_bounds high high_fits));
}
  where
    at_most : (k : ℤ) → SFits w32 k → k ≤ℤ pos 2147483648
    at_most (pos n) fits = omega (arith, ints, fits.sfits)
    at_most (negsuc n) fits = omega (arith, ints, fits.sfits)

of_call : (c : goal.After-min) → IsLastWith (c.index-leap_seconds-index.result.unix_leap_time
    -ℤ correction_before c.args.leap_seconds.now c.args.index -ℤ pos 1)
    (pos 9223372036854775807 -ℤ c.index-leap_seconds-index.result.correction) c.args.high c.min.result
of_call c =
    let item = c.index-leap_seconds-index.result in
    let before = before_cast item.unix_leap_time (correction_before c.args.leap_seconds.now c.args.index)
    c.unix_leap_time.result c.correction_before-correction.result c.without_correction-before.result (search rules)
    (search rules) c.unix_leap_time.ensures c.correction_before-correction.ensures
    c.without_correction-before.ensures in
    let correction_fits : SFits w32 c.correction.result = search rules in
    let fitting = fitting_cast item.correction c.correction.result c.without_correction-fitting.result correction_fits
    c.correction.ensures c.without_correction-fitting.ensures in
    let high = high_cast c.args.high c.from.result c.ranges.high c.from.ensures in
    let max = rw (before, fitting) at c.max.ensures in
    let min = rw (high, to_z-of_z w128 c.max.result (search rules)) at c.min.ensures in
    last_is _ _ c.args.high item.correction c.max.result c.min.result c.ranges.high
    (rw c.correction.ensures at correction_fits) refl max.value max.self_bound max.other_bound min.value
    min.self_bound min.other_bound

pub overflow_cast-result : goal.overflow_cast-result
overflow_cast-result c =
    rw (to_z-of_z w128 c.min.result (search rules)) (of_call c).fits

pub returns : goal.returns
returns c =
    let leaps = c.args.leap_seconds.now in
    let item = c.index-leap_seconds-index.result in
    let at = slice_get_read leaps _ c.args.index item refl c.requires.index c.index-leap_seconds-index.is in
    let last = of_call c in
    rw (to_z-of_z w128 c.min.result (search rules), to_z-of_z w64 c.min.result last.fits) (record {
      up_to = last.up_to;
      within = left_within leaps c.requires.leaps c.args.index item at c.min.result last.one;
      past = λ u above up_to. let both = last.after u above up_to in
          left_past leaps c.requires.leaps c.args.index item at u both.0 both.1;
    })
