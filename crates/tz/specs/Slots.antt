-- A buffer of slots for what a search finds, of which the first are written.
use Rattle.std.specs.Prelude.{ℕ, ◌-◌, List, [], ◌∷◌, Option, Some, None, length, take, min, slice_get}
use Rattle.tz.specs.DateTimes.{DateTime}
use Rattle.tz.specs.Found.{first_side_of, last_side_of}
use Rattle.tz.specs.declared.datetime.found.FoundDateTimeKind.{FoundDateTimeKind}
use Rattle.tz.specs.declared.datetime.found.FoundDateTimeKind.TheVariants.{Normal}

abbrev pub Slots : Type 0
Slots = List (Option FoundDateTimeKind)

-- the slots that are written if this many were found: one for each, as far as they go
abbrev pub written_of : Slots → ℕ → Slots
written_of slots count = take (min count (length slots)) slots

-- the slots when these were found: the front of the list, as far as the slots go, and then the
-- other slots as they were
abbrev pub filled : Slots → List FoundDateTimeKind → Slots
filled [] found = []
filled (slot ∷ slots) [] = slot ∷ slots
filled (slot ∷ slots) (e ∷ found) = Some e ∷ filled slots found

-- what a slot holds, if it is one
abbrev pub content_of : Option (Option FoundDateTimeKind) → Option FoundDateTimeKind
content_of (Some slot) = slot
content_of None = None

abbrev pub earliest_slot : Slots → Option DateTime
earliest_slot slots = first_side_of (content_of (slice_get slots 0))

abbrev pub latest_slot : Slots → Option DateTime
latest_slot slots = last_side_of (content_of (slice_get slots (length slots - 1)))

-- the one date time if one slot is written
abbrev pub unique_slot : Slots → Option DateTime
unique_slot (Some (Normal d) ∷ []) = Some d
unique_slot _ = None
