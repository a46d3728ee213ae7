-- How many entries a reading has, and those of its ends: as much of the entries as a choice among
-- them depends on.
use Rattle.std.specs.Prelude.{◌≡◌, ◌-◌, ⊤, ℤ, ◌-ℤ◌, List, [], ◌∷◌, ◌++◌, Option, Some, None, length}
use Rattle.std.specs.Prelude.{slice_get, option_map}
use Rattle.std.specs.List.{All}
use Rattle.std.specs.Option.{option_or}
use Rattle.std.proofs.lemmas.List.Elements.{All-nil, All-append}
use Rattle.tz_base.specs.declared.error.TzError.{TzError}
use Rattle.tz_base.specs.declared.error.TzError.TheVariants as faults
use Rattle.tz_rule.specs.LocalTimeType.{LocalTimeType}
use Rattle.tz_zone.specs.Clock.{IsClock}
use Rattle.tz_zone.specs.Table.{Zone}
use Rattle.tz.specs.Entries.{Entry, Shown, Jump, AreEntries, HasTwoTypes, IsEntryIn}
use Rattle.tz.specs.Entries.{IsEntryInside, IsEntryOutside}
use Rattle.tz.specs.GapsAndFolds.{Clock}
use Rattle.tz.specs.Growth.{HoldsMore, holds_more, holds_none}
use Rattle.tz.specs.declared.datetime.disambiguation.Disambiguation.{Disambiguation}
use Rattle.tz.specs.declared.datetime.disambiguation.Disambiguation.TheVariants.{Compatible}
use Rattle.tz.specs.declared.datetime.disambiguation.Disambiguation.TheVariants.{Earlier, Later}
use Rattle.tz.specs.declared.datetime.disambiguation.Disambiguation.TheVariants.{Reject}
use Rattle.tz.specs.declared.datetime.entry_ends.EntryEnds.{EntryEnds}
use Rattle.tz.specs.declared.datetime.entry_ends.Entry.{Entry as BorrowedEntry}
use Rattle.tz.specs.declared.datetime.entry_ends.Entry.TheVariants as borrowed

-- an entry whose types are borrowed
abbrev pub entry_of : BorrowedEntry → Entry
entry_of (borrowed.Shown u t) = Shown u t.now
entry_of (borrowed.Jump u a b) = Jump u a.now b.now

-- the first entry, the last, and the first that is shown
abbrev pub first_entry : List Entry → Option Entry
first_entry es = slice_get es 0

abbrev pub last_entry : List Entry → Option Entry
last_entry es = slice_get es (length es - 1)

abbrev pub first_shown : List Entry → Option Entry
first_shown [] = None
first_shown (Shown u t ∷ es) = Some (Shown u t)
first_shown (Jump u a b ∷ es) = first_shown es

-- the one entry of a list of one, if it is shown
abbrev pub only_shown : List Entry → Option Entry
only_shown (Shown u t ∷ []) = Some (Shown u t)
only_shown _ = None

-- the entry that is meant
abbrev pub entry_meant : Disambiguation → List Entry → Option Entry
entry_meant Compatible es = option_or (first_shown es) (last_entry es)
entry_meant Earlier es = first_entry es
entry_meant Later es = last_entry es
entry_meant Reject es = only_shown es

-- the instant that is meant if clocks that change from one type to another are set forward over a
-- reading
abbrev pub instant_between : Disambiguation → ℤ → LocalTimeType → LocalTimeType → ℤ
instant_between Earlier r before after = r -ℤ after.ut_offset
instant_between _ r before after = r -ℤ before.ut_offset

-- they are counted, and their ends are kept
pub record IsEndsOf (es : List Entry) (ends : EntryEnds) : Type 0 where
  pub count_is : ends.count ≡ length es
  pub first_is : option_map entry_of ends.first ≡ first_entry es
  pub last_is : option_map entry_of ends.last ≡ last_entry es
  pub shown_is : option_map entry_of ends.shown ≡ first_shown es

-- more entries than one, and not two that are shown
abbrev pub AreMore : List Entry → Type 0
AreMore [] = ⊥
AreMore (e ∷ []) = ⊥
AreMore (Shown u a ∷ Shown v b ∷ []) = ⊥
AreMore _ = ⊤

-- the entry that is meant of whatever entries have these ends
abbrev pub IsMeantOf : Disambiguation → EntryEnds → Option BorrowedEntry → Type 0
IsMeantOf choice ends meant = (es : List Entry) → IsEndsOf es ends
    → option_map entry_of meant ≡ entry_meant choice es

-- all that a reading has, of which each is inside the years of 32 bits
abbrev pub HasInside : Clock → ℤ → Type 0
HasInside clock r = (es : List Entry) × AreEntries clock r es × All IsEntryInside es

-- their ends
abbrev pub HasEnds : Clock → ℤ → EntryEnds → Type 0
HasEnds clock r ends = (es : List Entry) × AreEntries clock r es × All IsEntryInside es
    × IsEndsOf es ends

-- the entry that is meant of them
abbrev pub HasMeant : Clock → ℤ → Disambiguation → Option BorrowedEntry → Type 0
HasMeant clock r choice meant = (es : List Entry) × AreEntries clock r es × All IsEntryInside es
    × (option_map entry_of meant ≡ entry_meant choice es)

-- of those in any clock that has two types around a change
abbrev pub HasMeantAround : ℤ → ℤ → LocalTimeType → LocalTimeType → Disambiguation
    → Option BorrowedEntry → Type 0
HasMeantAround r since before after choice meant = (es : List Entry)
    × ((z : Zone) → HasTwoTypes z r since before after → AreEntries (IsClock z) r es)
    × All IsEntryInside es × (option_map entry_of meant ≡ entry_meant choice es)

-- an entry that has a side outside these years
abbrev pub IsOutsideFault : TzError → Entry → Type 0
IsOutsideFault fault e = (fault ≡ faults.OutOfRange) × IsEntryOutside e

-- in any clock that has two types around a change
abbrev pub IsOutsideAround : ℤ → ℤ → LocalTimeType → LocalTimeType → TzError → Type 0
IsOutsideAround r since before after fault = (e : Entry) × IsOutsideFault fault e
    × ((z : Zone) → HasTwoTypes z r since before after → IsEntryIn (IsClock z) r e)

-- the ends of any entries become those of the same with these after them, all of which are inside
abbrev pub GainsInside : EntryEnds → EntryEnds → List Entry → Type 0
GainsInside ends grown es = HoldsMore (λ ends es. IsEndsOf es ends) ends grown es
    × All IsEntryInside es

pub gains_none : (ends : EntryEnds) → GainsInside ends ends []
gains_none ends = (holds_none (λ ends es. IsEndsOf es ends) ends, All-nil IsEntryInside)

pub gains_more : (ends middle grown : EntryEnds) (es fs : List Entry) → GainsInside ends middle es
    → GainsInside middle grown fs
    → GainsInside ends grown (es ++ fs)
gains_more ends middle grown es fs (first, inside) (second, inside') = (
  holds_more (λ ends es. IsEndsOf es ends) ends middle grown es fs first second,
  All-append
      IsEntryInside es fs inside inside',
)
