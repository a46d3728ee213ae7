-- How walks from change to change stand: from which instant on a rule has the types, and how far a
-- walk has come.
use Rattle.std.specs.Prelude.{◌≡◌, ℕ, ◌-◌, ◌<◌, ◌≤◌, ℤ, pos, ◌+ℤ◌, ◌≤ℤ◌, ◌<ℤ◌}
use Rattle.std.specs.Prelude.{length, Some, slice_get}
use Rattle.tz_rule.specs.LocalTimeType.{LocalTimeType}
use Rattle.tz_zone.specs.Table.{Transition, Zone}
use Rattle.tz_zone.specs.LeapTime.{IsWideEffect}
use Rattle.tz_zone.specs.Clock.{IsTypeOfLast, IsLast}
use Rattle.tz_zone.specs.ClockSegments.{IsReachedAt}
use Rattle.tz_zone.specs.Changes.{HasNoChange}

-- from this whole number on the rule has the types: the effect of the last transition's time
abbrev pub IsSeam : Zone → ℤ → Type 0
IsSeam z m =
    (last : Transition) × IsLast z.transitions last
    × IsWideEffect z.leap_seconds last.unix_leap_time m

-- an instant lies at a position
abbrev pub LiesAt : Zone → ℤ → ℕ → Type 0
LiesAt z u k = (k ≤ length z.transitions) × IsReachedAt z u k

-- a walk after an instant has come to another one, which lies at a position, and found no change up
-- to it
abbrev pub IsWalkedUp : Zone → ℤ → ℤ → ℕ → Type 0
IsWalkedUp z u since k = (u ≤ℤ since) × LiesAt z since k × HasNoChange z u (since +ℤ pos 1)

-- a walk back from an instant has come to another one, which lies at a position, and found no
-- change after it
abbrev pub IsWalkedDown : Zone → ℤ → ℤ → ℕ → Type 0
IsWalkedDown z u last k = (last <ℤ u) × LiesAt z last k × HasNoChange z last u

-- after all transitions, no change comes after the seam and before an instant
abbrev pub HasNoneAfterSeam : Zone → ℕ → ℤ → Type 0
HasNoneAfterSeam z k u = k ≡ length z.transitions → (m : ℤ) → IsSeam z m → HasNoChange z m u

-- the positions from one up to another are a run of one type, and the transition before the first
-- one takes effect at an instant; the position after all transitions is a run of its own
pub record IsRunStart (z : Zone) (k start : ℕ) (m : ℤ) : Type 0 where
  pub some : 0 < start
  pub up_to : start ≤ k
  pub change : Transition
  pub change_is : slice_get z.transitions (start - 1) ≡ Some change
  pub effect : IsWideEffect z.leap_seconds change.unix_leap_time m
  pub types : k < length z.transitions → (t : LocalTimeType) × ((i : ℕ) → start ≤ i → i ≤ k
      → IsTypeOfLast z i t)
  pub all : k ≡ length z.transitions → start ≡ k
