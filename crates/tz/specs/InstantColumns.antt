-- What a call that finds the instants of a whole column answers, from an index on, up to the first
-- that has none.
use Rattle.std.specs.Int.{w32}
use Rattle.std.specs.Prelude.{◌≡◌, ◌⊎◌, FitsSigned, ℕ, ◌<◌, ◌≤◌, ℤ, ◌-ℤ◌, ◌≤ℤ◌, List, Option, Some, None, length, slice_get}
use Rattle.tz_base.specs.declared.error.TzError.{TzError}
use Rattle.tz_base.specs.declared.error.TzError.TheVariants as faults
use Rattle.tz_base.specs.declared.fields.Fields.{Fields}
use Rattle.tz_base.specs.Fields.{IsCivil, IsReading, IsValid}
use Rattle.tz_zone.specs.Clock.{IsClock}
use Rattle.tz_zone.specs.Table.{Zone}
use Rattle.tz.specs.Choices.{IsMeaning, IsMeaningFault}
use Rattle.tz.specs.Columns.{AreAnswered}
use Rattle.tz.specs.DateTimes.{DateTime}
use Rattle.tz.specs.Found.{EachCanBeMade}
use Rattle.tz.specs.Windows.{IsSmall}
use Rattle.tz.specs.declared.columns.instants.NoInstant.{NoInstant}
use Rattle.tz.specs.declared.columns.instants.Stretch.{Stretch}
use Rattle.tz.specs.declared.datetime.disambiguation.Disambiguation.{Disambiguation}

-- an index has no instant, and those from one up to it do
pub record IsFirstWithout {V : Type 0} (IsAnswerAt : ℕ → V → Type 0)
    (IsNoneAt : ℕ → Option TzError → Type 0) (first : ℕ) (before after : List V)
    (refused : NoInstant) : Type 0 where
  pub within : (first ≤ refused.index) × (refused.index < length before)
  pub none : IsNoneAt refused.index refused.error
  pub up_to : AreAnswered IsAnswerAt first refused.index before after

-- what holds the instant of the element at an index
abbrev pub HoldsInstantAt : {X S : Type 0} → (ℤ → S) → (X → ℤ → Type 0) → List X → ℕ → S → Type 0
HoldsInstantAt {X} holding IsInstant asked i slot = (x : X) → slice_get asked i ≡ Some x
    → (u : ℤ) × IsInstant x u × (slot ≡ holding u)

-- why the element at an index has none
abbrev pub HasNoneAt : {X : Type 0} → (X → Option TzError → Type 0) → List X → ℕ → Option TzError
    → Type 0
HasNoneAt {X} HasNone asked i e = (x : X) → slice_get asked i ≡ Some x → HasNone x e

-- the instant of the date time that fields mean by a choice, whose year fits 32 bits; a search for
-- them is not refused
abbrev pub IsInstantOf : Zone → Disambiguation → Fields → ℤ → Type 0
IsInstantOf z choice f u = IsValid f × EachCanBeMade (IsClock z) f
    × ((d : DateTime) × IsMeaning z choice f (Some d) × FitsSigned w32 d.fields.year
    × (u ≡ d.unix_time))

-- why fields have none: they mean none by the choice, or there is a fault
abbrev pub HasNoInstant : Zone → Disambiguation → Fields → Option TzError → Type 0
HasNoInstant z choice f None = IsValid f × EachCanBeMade (IsClock z) f × IsMeaning z choice f None
HasNoInstant z choice f (Some e) = IsMeaningFault z choice f e

-- the instant of the date time that a reading means: its fields, with no nanoseconds, mean it
abbrev pub IsInstantOfReading : Zone → Disambiguation → ℤ → ℤ → Type 0
IsInstantOfReading z choice r u = IsReading r × ((f : Fields) × IsCivil r 0 f
    × EachCanBeMade (IsClock z) f
    × ((d : DateTime) × IsMeaning z choice f (Some d) × (u ≡ d.unix_time)))

-- why a reading has none: its fields have none, or it is in no year of 32 bits
abbrev pub HasNoInstantOfReading : Zone → Disambiguation → ℤ → Option TzError → Type 0
HasNoInstantOfReading z choice r e =
    (IsReading r × ((f : Fields) × IsCivil r 0 f × HasNoInstant z choice f e))
    ⊎ ((e ≡ Some faults.OutOfRange) × ¬ IsReading r)

-- by all choices each reading of a stretch means the instant that is as much before it as its
-- offset
abbrev pub IsStretch : Zone → Stretch → Type 0
IsStretch z s = (r : ℤ) (choice : Disambiguation) → s.from ≤ℤ r → r ≤ℤ s.last
    → IsInstantOfReading z choice r (r -ℤ s.offset)

-- the readings of a stretch are small
abbrev pub AreSmall : Stretch → Type 0
AreSmall s = (r : ℤ) → s.from ≤ℤ r → r ≤ℤ s.last → IsSmall r

-- the reading is in the stretch, and this is the instant at which its offset shows it
abbrev pub IsShownIn : Stretch → ℤ → ℤ → Type 0
IsShownIn s r u = (s.from ≤ℤ r) × (r ≤ℤ s.last) × (u ≡ r -ℤ s.offset)
