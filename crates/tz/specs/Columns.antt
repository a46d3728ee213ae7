-- What a call over a whole column answers, from an index on, up to the first that has no answer.
use Rattle.std.specs.Prelude.{◌≡◌, ℕ, ◌<◌, ◌≤◌, ℤ, ◌≤ℤ◌, List, length, Some, slice_get}
use Rattle.tz_base.specs.declared.error.TzError.{TzError}
use Rattle.tz_rule.specs.LocalTimeType.{LocalTimeType}
use Rattle.tz_zone.specs.Changes.{Segment}
use Rattle.tz_zone.specs.Clock.{IsClock, IsLookupFault}
use Rattle.tz_zone.specs.Table.{Zone}
use Rattle.tz.specs.declared.columns.Unanswered.{Unanswered}

-- the values at the indexes from one up to another are answers, and all others are as before
pub record AreAnswered {V : Type 0} (IsAnswerAt : ℕ → V → Type 0) (first end : ℕ)
    (before after : List V) : Type 0 where
  pub length_is : length after ≡ length before
  pub answered : (i : ℕ) (value : V) → first ≤ i → i < end → slice_get after i ≡ Some value
      → IsAnswerAt i value
  pub below : (i : ℕ) → i < first → slice_get after i ≡ slice_get before i
  pub past : (i : ℕ) → end ≤ i → slice_get after i ≡ slice_get before i

-- an index has no answer, and those from one up to it do
pub record IsFirstUnanswered {V : Type 0} (IsAnswerAt : ℕ → V → Type 0)
    (IsFaultAt : ℕ → TzError → Type 0) (first : ℕ) (before after : List V) (refused : Unanswered)
    : Type 0 where
  pub within : (first ≤ refused.index) × (refused.index < length before)
  pub fault : IsFaultAt refused.index refused.error
  pub up_to : AreAnswered IsAnswerAt first refused.index before after

-- all instants are in a segment
abbrev pub AreInSegment : Segment → List ℤ → Type 0
AreInSegment s unix_times = (i : ℕ) (u : ℤ) → slice_get unix_times i ≡ Some u
    → (s.from ≤ℤ u) × (u ≤ℤ s.last)

-- the clock's offset at an instant
abbrev pub IsOffset : Zone → ℤ → ℤ → Type 0
IsOffset z u offset = (t : LocalTimeType) × IsClock z u t × (offset ≡ t.ut_offset)

-- the clock's offset at the instant of an index, or why there is none
abbrev pub IsOffsetAt : Zone → List ℤ → ℕ → ℤ → Type 0
IsOffsetAt z unix_times i offset = (u : ℤ) → slice_get unix_times i ≡ Some u → IsOffset z u offset

abbrev pub IsOffsetFaultAt : Zone → List ℤ → ℕ → TzError → Type 0
IsOffsetFaultAt z unix_times i e = (u : ℤ) → slice_get unix_times i ≡ Some u → IsLookupFault z u e
