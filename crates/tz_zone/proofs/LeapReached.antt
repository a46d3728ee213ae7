-- At which instants a leap time is reached: from its effect on.
use Rattle.tz_zone.proofs.Common.{◌≡◌, arith, ints, inr, inl, ℤ, List, ◌≤ℤ◌, ◌<ℤ◌, pos, ◌-ℤ◌, [], ◌+ℤ◌, by_lt_z, negsuc, LeapSecond, ◌⊎◌, AreLeapSeconds, IsWideEffect, IsLeapTimeRefused, IsPastInstants, IsTimeReached, IsBeforeStart, IsLastBefore}
use Rattle.tz_zone.proofs.LeapTimes.{one_leap_time, past_later, begun_later, not_past_within}
use Rattle.tz_zone.proofs.InstantsWithLeapTime.{plain_leap, plain_effect, reached_from}

-- a leap time that is not reached at some instant is not the least one
pub not_least : (leaps : List LeapSecond) → leaps ≡ [] → (u v : ℤ) → ¬ IsTimeReached leaps v u → u <ℤ v
not_least leaps none u v before = by_lt_z u v (λ h. h) (λ h. absurd (before (u, plain_leap leaps none u, h)))

-- without leap seconds it is the second before
pub plain_last_before : (leaps : List LeapSecond) → leaps ≡ [] → (v : ℤ) → negsuc 9223372036854775807 ≤ℤ v
    → IsLastBefore leaps v (v -ℤ pos 1)
plain_last_before leaps none v low =
    let next : v -ℤ pos 1 +ℤ pos 1 ≡ v = omega (arith, ints) in
    record {
      before = λ u up_to reached. absurd (omega
          (arith, ints, up_to, reached.2, one_leap_time leaps u reached.0 u reached.1 (plain_leap leaps none u)));
      within = λ u up_to past. (plain_leap leaps none u).not_refused (inr past);
      next = λ not_greatest. inr (rw next (plain_effect leaps none v low));
    }

-- it is the second before the effect, or the last instant that has a leap time
pub last_before_by_seconds : (leaps : List LeapSecond) (v m last high : ℤ) → IsWideEffect leaps v m → last ≤ℤ high
    → ((high ≡ m -ℤ pos 1) ⊎ (high ≡ pos 9223372036854775807)) → high ≤ℤ (m -ℤ pos 1)
    → ((u : ℤ) → u ≤ℤ last → ¬ IsPastInstants leaps u) → ((u : ℤ) → last <ℤ u → u ≤ℤ high → IsPastInstants leaps u)
    → IsLastBefore leaps v last
last_before_by_seconds leaps v m last high wide up_to one bound within past = record {
  before = λ u h reached. absurd (omega (arith, ints, h, up_to, bound, wide.least u reached));
  within = within;
  next = λ not_greatest. by_lt_z last high
      (λ h. inl (past (last +ℤ pos 1) (omega (arith, ints)) (omega (arith, ints, h))))
      (λ h. elim one [
        | inl e ↦
            let same : last +ℤ pos 1 ≡ m = omega (arith, ints, h, up_to, e) in
            inr (rw same wide)
        | inr e ↦ absurd (not_greatest (omega (arith, ints, h, up_to, e)))
      ]);
}

module _ (leaps : List LeapSecond) (are : AreLeapSeconds leaps) where
  -- a leap time is reached from its effect on, up to an instant up to which none is past those with a leap time
  pub reached_since : (v m last u : ℤ) → IsWideEffect leaps v m → ((w : ℤ) → w ≤ℤ last → ¬ IsPastInstants leaps w)
      → m ≤ℤ u → u ≤ℤ last → IsTimeReached leaps v u
  reached_since v m last u wide within from up_to = reached_from leaps are v m u wide defined from
    where
      defined : ¬ IsLeapTimeRefused leaps u
      defined (inl before) = begun_later leaps are m u from wide.begun before
      defined (inr past) = within u up_to past

  -- and up to an instant that has a leap time
  pub reached_between : (v m last u : ℤ) → IsWideEffect leaps v m → ¬ IsLeapTimeRefused leaps last → m ≤ℤ u → u ≤ℤ last
      → IsTimeReached leaps v u
  reached_between v m last u wide defined =
      reached_since v m last u wide (λ w up_to past. defined (inr (past_later leaps are w last up_to past)))

  -- up to an end an instant that is not past the last one that has a leap time is not after it, and conversely
  pub up_to_last : (last high u : ℤ) → ((w : ℤ) → last <ℤ w → w ≤ℤ high → IsPastInstants leaps w) → u ≤ℤ high
      → ¬ IsPastInstants leaps u → u ≤ℤ last
  up_to_last last high u past within defined = by_lt_z last u (λ h. absurd (defined (past u h within))) (λ h. h)

  pub after_last : (last u : ℤ) → ((w : ℤ) → w ≤ℤ last → ¬ IsPastInstants leaps w) → IsPastInstants leaps u → last <ℤ u
  after_last last u within past = by_lt_z last u (λ h. h) (λ h. absurd (within u h past))

  -- the last one that has a leap time is a far one
  pub last_is_far : (last : ℤ) → ((w : ℤ) → last <ℤ w → w ≤ℤ pos 9223372036854775807 → IsPastInstants leaps w)
      → pos 80000000000000000 ≤ℤ last
  last_is_far last past = up_to_last last (pos 9223372036854775807) (pos 80000000000000000) past (omega (arith, ints))
      (not_past_within leaps are (pos 80000000000000000) (omega (arith, ints)))

  -- what is refused although the table has begun is past it
  pub past_if_begun : (u : ℤ) → ¬ IsBeforeStart leaps u → IsLeapTimeRefused leaps u → IsPastInstants leaps u
  past_if_begun u begun (inl before) = absurd (begun before)
  past_if_begun u begun (inr past) = past

  -- each instant that has a leap time, and at which another one is not reached, is one up to the last before that
  pub up_to_last_before : (v last u : ℤ) → IsLastBefore leaps v last → u ≤ℤ pos 9223372036854775807
      → ¬ IsLeapTimeRefused leaps u → ¬ IsTimeReached leaps v u → u ≤ℤ last
  up_to_last_before v last u is high defined before = by_lt_z last u
      (λ h. elim (is.next (λ e. absurd (omega (arith, ints, e, h, high)))) [
        | inl past ↦ absurd (defined (inr (past_later leaps are (last +ℤ pos 1) u (omega (arith, ints, h)) past)))
        | inr wide ↦ absurd (before (reached_from leaps are v (last +ℤ pos 1) u wide defined (omega (arith, ints, h))))
      ])
      (λ h. h)
