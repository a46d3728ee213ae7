-- What contracts see of the two lists of found date times.
use Rattle.std.specs.Borrow.{GName}
use Rattle.std.specs.Prelude.{ℕ, List}
use Rattle.tz.specs.Slots.{Slots}
use Rattle.tz.specs.declared.datetime.found.FoundDateTimeKind.{FoundDateTimeKind}
use Rattle.tz.specs.declared.datetime.found.FoundDateTimeList.{FoundDateTimeList}
use Rattle.tz.specs.declared.datetime.found.FoundDateTimeListRefMut.{FoundDateTimeListRefMut}

-- what a list holds
abbrev pub found_of : {A : Type 0} → FoundDateTimeList A → List FoundDateTimeKind
found_of list = list.found.items

-- the slots that a list borrowed, and how many date times it counts
abbrev pub slots_of : FoundDateTimeListRefMut → Slots
slots_of list = list.buf.now

abbrev pub count_of : FoundDateTimeListRefMut → ℕ
count_of list = list.count

-- the reference by which the list writes to those slots: two lists with one reference have the same
-- slots
abbrev pub reference_of : FoundDateTimeListRefMut → GName
reference_of list = list.buf.ghost_name
