-- From the effect of the transition before a position up to the next one instants lie at the position.
use Rattle.tz_zone.proofs.Common.{◌≡◌, ℕ, ℤ, ◌≤ℤ◌, Some, Zone, by_lt_z, slice_get, IsReachedAt, AreLeapSeconds, IsWideEffect, IsInstant, Transition, IsPastInstants, IsTimeReached, IsSoundTable, IsBefore, IsRising}
use Rattle.tz_zone.proofs.RisingTimes.{ahead_from, reached_before}
use Rattle.tz_zone.proofs.LeapReached.{reached_since}
use Rattle.tz_zone.proofs.Positions.{reached_at}
use Rattle.tz_zone.proofs.SegmentEnds.{before_reached}

module _ (z : Zone) (sound : IsSoundTable z) (u : ℤ) (k : ℕ) (fits : IsInstant u) (at : IsReachedAt z u k)
    (before : Transition) (is : IsBefore z.transitions k before) (m : ℤ)
    (wide : IsWideEffect z.leap_seconds before.unix_leap_time m) where
  are : AreLeapSeconds z.leap_seconds
  are = sound.leap_seconds_are

  rising : IsRising z.transitions
  rising i = (sound.transitions_are i).1

  pub start_up_to : m ≤ℤ u
  start_up_to = wide.least u (at.time, at.time_is, before_reached z sound u k fits at before is)

  -- from there on instants lie at the position until the next one is reached, as long as there are leap times
  pub lies_since : (next : Transition) → slice_get z.transitions k ≡ Some next → (last v : ℤ)
      → ((w : ℤ) → w ≤ℤ last → ¬ IsPastInstants z.leap_seconds w)
      → ((w : ℤ) → w ≤ℤ last → ¬ IsTimeReached z.leap_seconds next.unix_leap_time w)
      → m ≤ℤ v → v ≤ℤ last → IsReachedAt z v k
  lies_since next at_next last v within ahead low high =
      let (l, leap, reached) = reached_since z.leap_seconds are before.unix_leap_time m last v wide within low high in
      let early = by_lt_z l next.unix_leap_time (λ h. h) (λ h. absurd (ahead v high (l, leap, h))) in
      reached_at z v l k leap (
        reached_before z.transitions rising k before is l reached,
        ahead_from z.transitions rising l k next at_next early,
      )
