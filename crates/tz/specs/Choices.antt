-- Which one date time a local time means, where clocks show it never or more than once. (RFC 5545,
-- 3.3.5)
use Rattle.std.specs.Prelude.{◌≡◌, ◌⊎◌, ◌-◌, ◌-ℤ◌, ℤ, List, [], ◌∷◌, Option, Some, None, length, slice_get, ⊤}
use Rattle.std.specs.Option.{option_or}
use Rattle.tz_base.specs.declared.fields.Fields.{Fields}
use Rattle.tz_base.specs.declared.error.TzError.{TzError}
use Rattle.tz_base.specs.Fields.{reading, IsValid}
use Rattle.tz_zone.specs.Clock.{IsClock}
use Rattle.tz_zone.specs.Table.{Zone}
use Rattle.tz.specs.DateTimes.{DateTime, ShowsByClock, IsClockFault}
use Rattle.tz.specs.FindFaults.{IsFindFault}
use Rattle.tz.specs.Found.{EachCanBeMade, IsFound}
use Rattle.tz.specs.declared.datetime.disambiguation.Disambiguation.{Disambiguation}
use Rattle.tz.specs.declared.datetime.disambiguation.Disambiguation.TheVariants.{Compatible, Earlier, Later, Reject}
use Rattle.tz.specs.declared.datetime.found.FoundDateTimeKind.{FoundDateTimeKind}
use Rattle.tz.specs.declared.datetime.found.FoundDateTimeKind.TheVariants.{Normal, Skipped}

-- the first entry of a list, and the last
abbrev pub first_entry : List FoundDateTimeKind → Option FoundDateTimeKind
first_entry found = slice_get found 0

abbrev pub last_entry : List FoundDateTimeKind → Option FoundDateTimeKind
last_entry found = slice_get found (length found - 1)

-- the first entry that is shown
abbrev pub first_shown : List FoundDateTimeKind → Option FoundDateTimeKind
first_shown [] = None
first_shown (Normal d ∷ found) = Some (Normal d)
first_shown (Skipped before after ∷ found) = first_shown found

-- the one entry of a list of one, if it is shown
abbrev pub only_shown : List FoundDateTimeKind → Option FoundDateTimeKind
only_shown (Normal d ∷ []) = Some (Normal d)
only_shown _ = None

-- the entry of a list that is meant
abbrev pub entry_meant : Disambiguation → List FoundDateTimeKind → Option FoundDateTimeKind
entry_meant Compatible found = option_or (first_shown found) (last_entry found)
entry_meant Earlier found = first_entry found
entry_meant Later found = last_entry found
entry_meant Reject found = only_shown found

-- the instant that is meant if clocks are set forward over a reading: the reading in the offset
-- after the jump, which is before the jump, or in the offset before the jump, which is at the jump
-- or after it
abbrev pub instant_meant : Disambiguation → ℤ → DateTime → DateTime → ℤ
instant_meant Earlier r before after = r -ℤ after.local_time_type.ut_offset
instant_meant _ r before after = r -ℤ before.local_time_type.ut_offset

-- the date time that is meant by an entry: the one that is shown, or what the clock shows at the
-- instant that is meant
abbrev pub IsMeantBy : Zone → Disambiguation → Fields → FoundDateTimeKind → DateTime → Type 0
IsMeantBy z choice f (Normal shown) d = d ≡ shown
IsMeantBy z choice f (Skipped before after) d =
    ShowsByClock z (instant_meant choice (reading f) before after) f.nanoseconds d

-- why an entry has no date time: at the instant that is meant the clock shows none
abbrev pub IsMeantFault : Zone → Disambiguation → Fields → FoundDateTimeKind → TzError → Type 0
IsMeantFault z choice f (Normal shown) e = ⊥
IsMeantFault z choice f (Skipped before after) e =
    IsClockFault z (instant_meant choice (reading f) before after) f.nanoseconds e

-- the date time that is meant by an entry, or none if no entry is meant
abbrev pub IsMeantIn : Zone → Disambiguation → Fields → Option FoundDateTimeKind → Option DateTime
    → Type 0
IsMeantIn z choice f (Some entry) (Some d) = IsMeantBy z choice f entry d
IsMeantIn z choice f None None = ⊤
IsMeantIn z choice f _ _ = ⊥

-- the one date time that fields mean, or none
abbrev pub IsMeaning : Zone → Disambiguation → Fields → Option DateTime → Type 0
IsMeaning z choice f meaning =
    (found : List FoundDateTimeKind) × IsFound (IsClock z) f found
    × IsMeantIn z choice f (entry_meant choice found) meaning

-- why there is no answer: the search for the fields is refused, or it is not and the clock shows
-- nothing at the instant that is meant
abbrev pub IsMeaningFault : Zone → Disambiguation → Fields → TzError → Type 0
IsMeaningFault z choice f e =
    IsFindFault ⊥ (IsClock z) f e
    ⊎ ((found : List FoundDateTimeKind) × (entry : FoundDateTimeKind) × IsValid f
    × IsFound (IsClock z) f found × EachCanBeMade (IsClock z) f
    × (entry_meant choice found ≡ Some entry) × IsMeantFault z choice f entry e)
