-- A date time found in place: by the types of its window clocks show a reading once. And what a
-- search found, in place or in a list.
use Rattle.std.specs.Prelude.{◌≡◌, ◌⊎◌, ℤ, ◌-ℤ◌, ◌≤ℤ◌, ◌<ℤ◌, List, [], ◌∷◌}
use Rattle.tz_rule.specs.LocalTimeType.{LocalTimeType}
use Rattle.tz_zone.specs.declared.clock.window_types.WindowTypes.{WindowTypes}
use Rattle.tz_zone.specs.declared.clock.window_types.WindowTypes.TheVariants.{One, Two, More}
use Rattle.tz.specs.Lists.{found_of}
use Rattle.tz.specs.declared.datetime.found.FoundDateTimeKind.{FoundDateTimeKind}
use Rattle.tz.specs.declared.datetime.in_place.FoundDateTimes.{FoundDateTimes}
use Rattle.tz.specs.declared.datetime.in_place.FoundDateTimes.TheVariants.{Once, Listed}

-- the type shows the reading: the one type of the window, or that one of two which alone shows it
-- on its own side of the change
abbrev pub IsShownOnceIn : ℤ → WindowTypes → LocalTimeType → Type 0
IsShownOnceIn r (One t) type = type ≡ t.now
IsShownOnceIn r (Two jump before after) type =
    (((r -ℤ before.now.ut_offset) <ℤ jump) × ((r -ℤ after.now.ut_offset) <ℤ jump)
    × (type ≡ before.now))
    ⊎ ((jump ≤ℤ (r -ℤ before.now.ut_offset)) × (jump ≤ℤ (r -ℤ after.now.ut_offset))
    × (type ≡ after.now))
IsShownOnceIn r (More position) type = ⊥

-- one of the types does
abbrev pub IsShownOnce : ℤ → WindowTypes → Type 0
IsShownOnce r types = (type : LocalTimeType) × IsShownOnceIn r types type

-- what was found
abbrev pub all_of : {A : Type 0} → FoundDateTimes A → List FoundDateTimeKind
all_of (Once found) = found ∷ []
all_of (Listed list) = found_of list
