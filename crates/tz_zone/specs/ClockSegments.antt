-- Segments of a zone's clock: spans of time through which it has one type, or none. (RFC 8536,
-- section 3.2: transitions; 3.3: the footer.)
use Rattle.std.specs.Prelude.{◌≡◌, ◌≢◌, ℕ, ◌-◌, ◌⊎◌, ℤ, negsuc, ◌≤ℤ◌, List, Some, MatchOption, slice_get}
use Rattle.tz_zone.specs.Table.{Transition, Zone}
use Rattle.tz_zone.specs.LeapTime.{IsLeapTime, IsEffect}
use Rattle.tz_zone.specs.Clock.{AreReached, AreAhead, IsClock, HasNoType}
use Rattle.tz_zone.specs.declared.clock.segment.Segment.{Segment}

-- this many transitions are reached at an instant, and the others are ahead
pub record IsReachedAt (z : Zone) (u : ℤ) (k : ℕ) : Type 0 where
  pub time : ℤ
  pub time_is : IsLeapTime z.leap_seconds u time
  pub reached : AreReached z.transitions time k
  pub ahead : AreAhead z.transitions time k

-- what stands for a transition before the first one: from the least leap time on type number 0
-- holds
abbrev pub from_start : Transition
from_start = record { unix_leap_time = negsuc 9223372036854775807; type_index = 0 }

-- the last transition before a position, or what stands for it
abbrev pub IsBefore : List Transition → ℕ → Transition → Type 0
IsBefore transitions k before = ((k ≡ 0) × (before ≡ from_start))
    ⊎ ((k ≢ 0) × (slice_get transitions (k - 1) ≡ Some before))

-- the segment holds the instant, and the clock has its type, or none, throughout it
pub record IsSegmentAt (z : Zone) (u : ℤ) (s : Segment) : Type 0 where
  pub within : (s.from ≤ℤ u) × (u ≤ℤ s.last)
  pub holds : (v : ℤ) → s.from ≤ℤ v → v ≤ℤ s.last
      → MatchOption s.local_time_type (HasNoType z v) (λ t. IsClock z v t.now)

-- the transition at a position takes effect at an instant
abbrev pub TakesEffectAt : Zone → ℤ → ℕ → Type 0
TakesEffectAt z u i = (change : Transition) × (slice_get z.transitions i ≡ Some change)
    × IsEffect z.leap_seconds change.unix_leap_time u
