-- What a search finds: instants at which a clock shows a reading, and forward jumps of a clock over
-- it.
use Rattle.std.specs.Prelude.{◌≡◌, ◌-◌, ℤ, ◌<ℤ◌, List, [], ◌∷◌, Option, Some, None, length, slice_get, ⊤}
use Rattle.std.specs.List.{All, AllPairs, Contains}
use Rattle.tz_base.specs.declared.fields.Fields.{Fields}
use Rattle.tz_base.specs.Fields.{IsReading, reading}
use Rattle.tz_rule.specs.LocalTimeType.{LocalTimeType}
use Rattle.tz.specs.DateTimes.{DateTime, ShowsInstant}
use Rattle.tz.specs.GapsAndFolds.{Clock, PassesOver, Shows}
use Rattle.tz.specs.declared.datetime.found.FoundDateTimeKind.{FoundDateTimeKind}
use Rattle.tz.specs.declared.datetime.found.FoundDateTimeKind.TheVariants.{Normal, Skipped}

-- the date times of what is found: of a jump that before it, and that after it
abbrev pub first_side : FoundDateTimeKind → DateTime
first_side (Normal d) = d
first_side (Skipped before after) = before

abbrev pub last_side : FoundDateTimeKind → DateTime
last_side (Normal d) = d
last_side (Skipped before after) = after

-- its instant
abbrev pub instant_of : FoundDateTimeKind → ℤ
instant_of found = (first_side found).unix_time

-- the clock shows the fields, or it passes over them and the sides of the jump are its instant in
-- both types
abbrev pub IsFoundBy : Clock → Fields → FoundDateTimeKind → Type 0
IsFoundBy clock f (Normal d) = (d.fields ≡ f)
    × Shows clock (reading f) d.unix_time d.local_time_type
IsFoundBy clock f (Skipped before after) =
    (u : ℤ) × (a : LocalTimeType) × (b : LocalTimeType) × PassesOver clock (reading f) u a b
    × ShowsInstant u f.nanoseconds a before × ShowsInstant u f.nanoseconds b after

-- the first comes at the earlier instant
abbrev pub IsEarlier : FoundDateTimeKind → FoundDateTimeKind → Type 0
IsEarlier first second = instant_of first <ℤ instant_of second

-- the list of all that is found, in order
pub record IsFound (clock : Clock) (f : Fields) (found : List FoundDateTimeKind) : Type 0 where
  pub sound : All (IsFoundBy clock f) found
  pub in_order : AllPairs IsEarlier found
  pub complete : (e : FoundDateTimeKind) → IsFoundBy clock f e → Contains found e

-- an entry can be made: what is shown has the fields that were searched for, and both sides of a
-- jump need years of 32 bits
abbrev pub CanBeMade : FoundDateTimeKind → Type 0
CanBeMade (Normal d) = ⊤
CanBeMade (Skipped before after) = IsReading (reading before.fields)
    × IsReading (reading after.fields)

-- each entry that the fields have can be made, or one of them cannot
abbrev pub EachCanBeMade : Clock → Fields → Type 0
EachCanBeMade clock f = (e : FoundDateTimeKind) → IsFoundBy clock f e → CanBeMade e

abbrev pub OneCannotBeMade : Clock → Fields → Type 0
OneCannotBeMade clock f = (e : FoundDateTimeKind) × IsFoundBy clock f e × ¬ CanBeMade e

-- the one date time of a list of one
abbrev pub unique_of : List FoundDateTimeKind → Option DateTime
unique_of (Normal d ∷ []) = Some d
unique_of _ = None

-- the date time of the first of the list, and of the last
abbrev pub first_side_of : Option FoundDateTimeKind → Option DateTime
first_side_of (Some found) = Some (first_side found)
first_side_of None = None

abbrev pub last_side_of : Option FoundDateTimeKind → Option DateTime
last_side_of (Some found) = Some (last_side found)
last_side_of None = None

abbrev pub earliest_of : List FoundDateTimeKind → Option DateTime
earliest_of found = first_side_of (slice_get found 0)

abbrev pub latest_of : List FoundDateTimeKind → Option DateTime
latest_of found = last_side_of (slice_get found (length found - 1))
