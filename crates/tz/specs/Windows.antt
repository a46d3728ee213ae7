-- The window in which a clock can show a reading, by the offsets that a zone has, and the
-- transitions that take effect there.
use Rattle.std.specs.Prelude.{◌≡◌, ℕ, ◌+◌, ◌^◌, ◌<◌, ◌≤◌, ℤ, pos, negsuc, ◌-ℤ◌, ◌≤ℤ◌, List, Option, Some, None, length, slice_get}
use Rattle.std.specs.List.{All, AllPairs}
use Rattle.tz_rule.specs.LocalTimeType.{LocalTimeType}
use Rattle.tz_rule.specs.declared.timezone.transition_rule.TransitionRule.{TransitionRule}
use Rattle.tz_zone.specs.Table.{Transition, Zone}
use Rattle.tz_zone.specs.LeapTime.{IsEffect}
use Rattle.tz_zone.specs.Offsets.{IsLeastOffset, IsGreatestOffset}
use Rattle.tz_zone.specs.ValidZone.{IsSoundTable}
use Rattle.tz_zone.specs.declared.clock.window_types.WindowTypes.{WindowTypes}
use Rattle.tz_zone.specs.declared.clock.window_types.WindowTypes.TheVariants.{One, Two, More}
use Rattle.tz.specs.Reached.{AreOffsetsOf}

-- a reading of fields, roughly: less than 70000000000000000 seconds from 1970
abbrev pub IsSmall : ℤ → Type 0
IsSmall x = (negsuc 70000000000000000 ≤ℤ x) × (x ≤ℤ pos 70000000000000000)

-- the first and the last instant of a reading's window: the reading less the greatest offset, and
-- less the least
pub record IsWindow (types : List LocalTimeType) (extra_rule : Option TransitionRule)
    (r low high : ℤ) : Type 0 where
  pub first : IsGreatestOffset types extra_rule (r -ℤ low)
  pub last : IsLeastOffset types extra_rule (r -ℤ high)

-- a window in which a search finds all that a reading has in the clock of a sound zone
pub record IsSearchable (z : Zone) (r low high : ℤ) : Type 0 where
  pub sound : IsSoundTable z
  pub small : IsSmall r
  pub order : low ≤ℤ high
  pub reach : high ≤ℤ pos 80000000000000000
  pub width : (high -ℤ low) ≤ℤ pos (2 ^ 32)
  pub offsets : AreOffsetsOf z (r -ℤ high) (r -ℤ low)

-- the transition at a position takes effect at one of two instants or between them
abbrev pub TakesEffectIn : Zone → ℤ → ℤ → ℕ → Type 0
TakesEffectIn z low high i =
    (transition : Transition) × (u : ℤ) × (slice_get z.transitions i ≡ Some transition)
    × IsEffect z.leap_seconds transition.unix_leap_time u
    × (low ≤ℤ u) × (u ≤ℤ high)

-- a list of positions that rise
abbrev pub AreRising : List ℕ → Type 0
AreRising positions = AllPairs (λ i j. i < j) positions

-- no more than this many transitions take effect there
abbrev pub AtMostTakeEffectIn : Zone → ℤ → ℤ → ℕ → Type 0
AtMostTakeEffectIn z low high w = (positions : List ℕ) → AreRising positions
    → All (TakesEffectIn z low high) positions → length positions ≤ w

-- no more than this many take effect in the window of a reading
abbrev pub AtMostTakeEffectAround : Zone → ℤ → ℕ → Type 0
AtMostTakeEffectAround z r w = (low : ℤ) × (high : ℤ) × IsWindow z.types z.extra_rule r low high
    × AtMostTakeEffectIn z low high w

-- the looks with which a walk begins in the segment at a position: at the transitions on both sides
-- of it, or the halving of a walk that begins without one
abbrev pub first_looks : Option ℕ → ℕ → ℕ
first_looks None b = b + 3
first_looks (Some position) b = 2

-- the looks with which a search goes on, by the types that the clock has in its window
abbrev pub looks_after : WindowTypes → ℕ → ℕ → ℕ
looks_after (One t) b w = 0
looks_after (Two jump before after) b w = 0
looks_after (More position) b w = first_looks position b + w
