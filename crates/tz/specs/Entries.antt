-- The entries that a reading has in a clock: the instants at which the clock shows it, and the
-- jumps of the clock over it.
use Rattle.std.specs.Prelude.{◌≡◌, ◌⊎◌, ⊤, ◌^◌, ◌≤◌, ℤ, ◌+ℤ◌, ◌-ℤ◌, ◌≤ℤ◌, ◌<ℤ◌, List, [], ◌∷◌, ◌++◌}
use Rattle.std.specs.Prelude.{length, Option, Some, option_map}
use Rattle.std.specs.Borrow.{Bor}
use Rattle.std.specs.List.{All, AllPairs, Contains}
use Rattle.tz_base.specs.declared.error.TzError.{TzError}
use Rattle.tz_base.specs.Fields.{IsReading}
use Rattle.tz_rule.specs.LocalTimeType.{LocalTimeType}
use Rattle.tz_zone.specs.Clock.{IsClock}
use Rattle.tz_zone.specs.Table.{Zone}
use Rattle.tz_zone.specs.ValidZone.{AreLeapSeconds}
use Rattle.tz.specs.GapsAndFolds.{Clock, IsJumpOver, Shows, PassesOver}
use Rattle.tz.specs.Reached.{AreOffsetsOf}

-- an instant with the type that shows the reading there, or the instant of a jump with the types
-- before and after it
pub data Entry : Type 0 where
  Shown : ℤ → LocalTimeType → Entry
  Jump : ℤ → LocalTimeType → LocalTimeType → Entry

-- its instant
abbrev pub instant_of : Entry → ℤ
instant_of (Shown u t) = u
instant_of (Jump u a b) = u

-- the reading has it in the clock
abbrev pub IsEntryIn : Clock → ℤ → Entry → Type 0
IsEntryIn clock r (Shown u t) = Shows clock r u t
IsEntryIn clock r (Jump u a b) = PassesOver clock r u a b

-- the first comes at the earlier instant
abbrev pub IsEarlier : Entry → Entry → Type 0
IsEarlier first second = instant_of first <ℤ instant_of second

-- the list of all that the reading has, in order
pub record AreEntries (clock : Clock) (r : ℤ) (es : List Entry) : Type 0 where
  pub sound : All (IsEntryIn clock r) es
  pub in_order : AllPairs IsEarlier es
  pub complete : (e : Entry) → IsEntryIn clock r e → Contains es e

-- the list of all that it has before an instant
pub record AreEntriesBefore (clock : Clock) (r until : ℤ) (es : List Entry) : Type 0 where
  pub sound : All (λ e. IsEntryIn clock r e × (instant_of e <ℤ until)) es
  pub in_order : AllPairs IsEarlier es
  pub complete : (e : Entry) → IsEntryIn clock r e → instant_of e <ℤ until → Contains es e

-- how one who takes entries of a reading gains them: none if it stays, and one after the other
pub record IsTaker {E : Type 0} (gains : E → E → List Entry → Type 0) (takes : E → ℤ
    → Type 0) : Type 0 where
  pub none : (taker : E) → gains taker taker []
  pub more : (taker middle grown : E) (es fs : List Entry) → gains taker middle es
      → gains middle grown fs → gains taker grown (es ++ fs)
  pub goes_on : (taker grown : E) (es : List Entry) (r : ℤ) → gains taker grown es → takes taker r
      → takes grown r

-- one who takes entries, and takes those of the reading
pub record TakesFrom {E : Type 0} (gains : E → E → List Entry → Type 0) (takes : E → ℤ
    → Type 0) (taker : E) (r : ℤ) : Type 0 where
  pub is_taker : IsTaker gains takes
  pub takes_reading : takes taker r

-- whoever takes entries took all that the reading has, less than 2^33
abbrev pub Finds : {E : Type 0} → (E → E → List Entry → Type 0) → Clock → ℤ → E → E → Type 0
Finds gains clock r taker grown = (es : List Entry) × gains taker grown es × AreEntries clock r es
    × (length es ≤ 2 ^ 33)

-- one of those that the reading has was refused
abbrev pub IsRefused : (TzError → Entry → Type 0) → Clock → ℤ → TzError → Type 0
IsRefused refuses clock r fault = (e : Entry) × IsEntryIn clock r e × refuses fault e

-- all sides of an entry are inside the years of 32 bits
abbrev pub IsEntryInside : Entry → Type 0
IsEntryInside (Shown u t) = ⊤
IsEntryInside (Jump u a b) = IsReading (u +ℤ a.ut_offset) × IsReading (u +ℤ b.ut_offset)

-- a side of an entry is outside them
abbrev pub IsEntryOutside : Entry → Type 0
IsEntryOutside (Shown u t) = ⊥
IsEntryOutside (Jump u a b) = ¬ IsReading (u +ℤ a.ut_offset) ⊎ ¬ IsReading (u +ℤ b.ut_offset)

-- at the instant the clock has this type, or none
abbrev pub HoldsAt : Clock → ℤ → Option LocalTimeType → Type 0
HoldsAt clock u type = (t : LocalTimeType) → (clock u t → type ≡ Some t)
    × (type ≡ Some t → clock u t)

-- in the window of a reading the clock has the first type up to the jump, and the second from there
-- on
pub record HasTwoTypes (z : Zone) (r jump : ℤ) (before after : LocalTimeType) : Type 0 where
  pub leap_seconds_are : AreLeapSeconds z.leap_seconds
  pub low : ℤ
  pub high : ℤ
  pub offsets_are : AreOffsetsOf z (r -ℤ high) (r -ℤ low)
  pub types_are : (low <ℤ jump) × (jump ≤ℤ high) × ((u : ℤ) → low ≤ℤ u → u <ℤ jump
      → IsClock z u before) × ((u : ℤ) → jump ≤ℤ u → u ≤ℤ high → IsClock z u after)

-- a borrowed type
abbrev pub borrowed_type : Option (Bor LocalTimeType) → Option LocalTimeType
borrowed_type type = option_map (λ t. t.now) type

-- what a reading has in a span of time throughout which a clock has one type, or none, by the type
-- just before it
abbrev pub IsEntryOf : ℤ → Option LocalTimeType → ℤ → Option LocalTimeType → ℤ → Entry → Type 0
IsEntryOf r before since type last (Shown u t) = (type ≡ Some t) × ((since ≤ℤ u) × (u ≤ℤ last))
    × ((u +ℤ t.ut_offset) ≡ r)
IsEntryOf r before since type last (Jump u a b) = (u ≡ since) × (before ≡ Some a) × (type ≡ Some b)
    × IsJumpOver r u a b

-- its entry, or nothing
abbrev pub IsGiven : ℤ → Option LocalTimeType → ℤ → Option LocalTimeType → ℤ → List Entry → Type 0
IsGiven r before since type last es =
    ((es ≡ []) × ((e : Entry) → ¬ IsEntryOf r before since type last e))
    ⊎ ((e : Entry) × IsEntryOf r before since type last e × (es ≡ e ∷ []))

-- its entry was refused
abbrev pub IsGivenFault : (TzError → Entry → Type 0) → ℤ → Option LocalTimeType → ℤ
    → Option LocalTimeType → ℤ → TzError → Type 0
IsGivenFault refuses r before since type last fault =
    (e : Entry) × IsEntryOf r before since type last e × refuses fault e
