-- The wide effect of a leap time, from the count of leap seconds up to it.
use Rattle.tz_zone.proofs.Common.{◌≡◌, arith, ℕ, ints, refl, inr, inl, length, ℤ, ◌<◌, List, ◌≤ℤ◌, Some, ◌<ℤ◌, ◌-ℤ◌, ◌≤◌, LeapSecond, slice_get, ◌⊎◌, suc, AreLeapSeconds, IsWideEffect, IsInstant, correction_before, int_max, IsStart, HasBegunAt, int_max_is}
use Rattle.tz_zone.proofs.OffsetBounds.{int_max_either}
use Rattle.tz_zone.proofs.LeapSteps.{IsTimeCount, IsEffectByCount}
use Rattle.tz_zone.proofs.LeapLists.{time_at, time_at-is, correction_before-suc, correction_without_start, item_at}
use Rattle.tz_zone.proofs.LeapTimes.{least_from_effect, reached_at_effect, begun_at_effect, no_start_up_to, leap_not_below_start, effect_low, instant_bounds}

pub times_from_items : (leaps : List LeapSecond) (v : ℤ) (k : ℕ) → k ≤ length leaps
    → ((i : ℕ) (l : LeapSecond) → i < k → slice_get leaps i ≡ Some l → l.unix_leap_time ≤ℤ v)
    → ((i : ℕ) (l : LeapSecond) → k ≤ i → slice_get leaps i ≡ Some l → v <ℤ l.unix_leap_time)
    → IsTimeCount (length leaps) (time_at leaps) v k
times_from_items leaps v k within up_to later = record {
  within = within;
  up_to = λ i h. let item = item_at leaps i (omega arith) in
      rw (time_at-is leaps i item.0 item.1) (up_to i item.0 h item.1);
  later = λ i low high. let item = item_at leaps i high in
      rw (time_at-is leaps i item.0 item.1) (later i item.0 low item.1);
}

-- before all leap seconds it is the leap time itself
pub IsEffectByCount-none : (leaps : List LeapSecond) → AreLeapSeconds leaps → (v : ℤ) → HasBegunAt leaps v
    → IsTimeCount (length leaps) (time_at leaps) v 0 → IsEffectByCount (time_at leaps) (correction_before leaps) v 0 v
IsEffectByCount-none leaps are v begun times =
    let none = correction_without_start leaps (no_start_up_to leaps are v begun times) in
    record { after = omega (arith, ints); reached = λ i e. absurd (omega arith); tight = inl (omega (arith, ints)) }

-- after some it is the leap time less the correction, or the last leap second if that comes later
pub IsEffectByCount-some : (leaps : List LeapSecond) (v u : ℤ) (i : ℕ) (l : LeapSecond) → slice_get leaps i ≡ Some l
    → (v -ℤ l.correction) ≤ℤ u → (l.unix_leap_time -ℤ correction_before leaps i) ≤ℤ u
    → ((u ≡ v -ℤ l.correction) ⊎ (u ≡ l.unix_leap_time -ℤ correction_before leaps i))
    → IsEffectByCount (time_at leaps) (correction_before leaps) v (suc i) u
IsEffectByCount-some leaps v u i l at shifted reached tight =
    let here = correction_before-suc leaps i l at in
    let time = time_at-is leaps i l at in
    record {
      after = omega (arith, ints);
      reached = λ j e.
          let same : j ≡ i = omega arith in
          rw same (omega (arith, ints));
      tight = elim tight [
        | inl e ↦ inl (omega (arith, ints))
        | inr e ↦ inr (i, refl, omega (arith, ints))
      ];
    }

-- the effect is the leap time less the correction, but not before the leap second is reached
pub IsEffectByCount-greater : (leaps : List LeapSecond) (v : ℤ) (i : ℕ) (l : LeapSecond) → slice_get leaps i ≡ Some l
    → IsEffectByCount (time_at leaps) (correction_before leaps) v (suc i)
    (int_max (v -ℤ l.correction) (l.unix_leap_time -ℤ correction_before leaps i))
IsEffectByCount-greater leaps v i l at =
    let shifted = v -ℤ l.correction in
    let reached = l.unix_leap_time -ℤ correction_before leaps i in
    let greatest = int_max_is shifted reached in
    IsEffectByCount-some leaps v (int_max shifted reached) i l at (omega (arith, ints)) (omega (arith, ints))
    (int_max_either shifted reached)

pub IsWideEffect-from_count : (leaps : List LeapSecond) → AreLeapSeconds leaps → (v u : ℤ) (k : ℕ) → IsInstant v
    → HasBegunAt leaps v → IsTimeCount (length leaps) (time_at leaps) v k
    → IsEffectByCount (time_at leaps) (correction_before leaps) v k u → IsWideEffect leaps v u
IsWideEffect-from_count leaps are v u k instant begun times wide = record {
  least = least_from_effect leaps are v u k times wide;
  reached = reached_at_effect leaps are v u k times wide;
  begun = begun_at_effect leaps are v u k begun times wide;
  low = effect_low leaps are v u k begun (omega (arith, ints, instant_bounds v instant)) times wide;
}

-- the effect of a leap time before a truncated start is that of the start's
pub IsWideEffect-early : (leaps : List LeapSecond) → AreLeapSeconds leaps → (v m : ℤ) (l : LeapSecond) → IsStart leaps l
    → v <ℤ l.unix_leap_time → IsWideEffect leaps l.unix_leap_time m → IsWideEffect leaps v m
IsWideEffect-early leaps are v m l start early wide = record {
  least = λ w reached. wide.least w (
    reached.0,
    reached.1,
    leap_not_below_start leaps are w reached.0 l start reached.1,
  );
  reached = λ defined. let reached = wide.reached defined in (reached.0, reached.1, omega (arith, ints, reached.2));
  begun = wide.begun;
  low = wide.low;
}
