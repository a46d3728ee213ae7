-- The last instant that has a leap time, by each leap second in turn.
use Rattle.tz_zone.proofs.Common.{◌≡◌, arith, ℕ, ints, sym, inr, inl, length, ℤ, ◌∙◌, ◌<◌, ap, List, ◌≤ℤ◌, Some, ◌<ℤ◌, pos, ◌-ℤ◌, ◌+ℤ◌, ◌+◌, negsuc, LeapSecond, slice_get, slice_get_within, same_Some, ◌⊎◌, suc, AreLeapSeconds, IsInstant, IsReached, correction_before}
use Rattle.tz_zone.proofs.LeapSteps.{time_bound}
use Rattle.tz_zone.proofs.LeapLists.{time_at, time_at-is, correction_before-suc, AreSteps-from_leaps}
use Rattle.tz_zone.proofs.LeapTimes.{IsInstant-from_bounds, instant_bounds}

module _ (leaps : List LeapSecond) (are : AreLeapSeconds leaps) (i : ℕ) (l : LeapSecond)
    (at : slice_get leaps i ≡ Some l) where
  -- where a leap second is reached, the sum with its correction is not below 64 bits
  sum_low : (u : ℤ) → IsReached leaps i l u → negsuc 9223372036854775807 ≤ℤ (u +ℤ l.correction)
  sum_low u r =
      let inside : i < length leaps = omega (arith, slice_get_within leaps i l at) in
      let steps = AreSteps-from_leaps leaps are in
      let time = time_at-is leaps i l at in
      let low = time_bound (length leaps) (time_at leaps) (correction_before leaps) steps i inside in
      let here = correction_before-suc leaps i l at in
      let next : i + 1 ≡ suc i = omega arith in
      let moved = ap (correction_before leaps) next in
      let step = steps.step i inside in
      omega (arith, ints, r.1)

  -- up to an instant at which it is not reached, or with whose sum it fits, it takes no leap time out of 64 bits
  pub left_within : (last : ℤ) → (last ≤ℤ (l.unix_leap_time -ℤ correction_before leaps i -ℤ pos 1))
      ⊎ (last ≤ℤ (pos 9223372036854775807 -ℤ l.correction))
      → (x : LeapSecond) (u : ℤ) → u ≤ℤ last → IsReached leaps i x u → IsInstant (u +ℤ x.correction)
  left_within last bound x u up_to r =
      let same : l ≡ x = same_Some l x (sym at ∙ r.0) in
      let r' : IsReached leaps i l u = rw same r in
      let fits : IsInstant (u +ℤ l.correction) = elim bound [
        | inl before ↦ absurd (omega (arith, ints, before, up_to, r'.1))
        | inr fitting ↦ IsInstant-from_bounds (u +ℤ l.correction) (sum_low u r') (omega (arith, ints, fitting, up_to))
      ] in
      rw (sym same) fits

  -- after both it does
  pub left_past : (u : ℤ) → (l.unix_leap_time -ℤ correction_before leaps i -ℤ pos 1) <ℤ u
      → (pos 9223372036854775807 -ℤ l.correction) <ℤ u
      → (x : LeapSecond) × IsReached leaps i x u × ¬ IsInstant (u +ℤ x.correction)
  left_past u before fitting = (
    l,
    (at, omega (arith, ints, before)),
    λ fits.
        absurd (omega (arith, ints, fitting, instant_bounds (u +ℤ l.correction) fits)),
  )
