-- Why a search for fields is refused, and when it is never out of range.
use Rattle.std.specs.Prelude.{◌≡◌, ◌⊎◌, ℕ, ℤ, negsuc, pos, ◌≤ℤ◌, Option, Some, None, ⊤, alloc_error}
use Rattle.tz_base.specs.declared.fields.Fields.{Fields}
use Rattle.tz_base.specs.declared.error.TzError.{TzError}
use Rattle.tz_base.specs.declared.error.TzError.TheVariants as faults
use Rattle.tz_base.specs.declared.error.DateTimeError.{DateTimeError}
use Rattle.tz_base.specs.Fields.{IsFirstFault, IsValid}
use Rattle.tz_rule.specs.LocalTimeType.{LocalTimeType}
use Rattle.tz_rule.specs.Alternate.{IsRuleOffset}
use Rattle.tz_rule.specs.declared.timezone.transition_rule.TransitionRule.{TransitionRule}
use Rattle.tz_rule.specs.declared.timezone.transition_rule.TransitionRule.TheVariants.{Fixed, Alternate}
use Rattle.tz_zone.specs.Table.{Zone}
use Rattle.tz_zone.specs.Clock.{IsTypeAt}
use Rattle.tz.specs.Found.{OneCannotBeMade}
use Rattle.tz.specs.GapsAndFolds.{Clock}

-- the first fault of the fields
abbrev pub IsFieldFault : Fields → TzError → Type 0
IsFieldFault f e = (fault : DateTimeError) × (e ≡ faults.DateTime fault) × IsFirstFault f fault

-- why a search for valid fields is refused: memory, if it takes any, or an entry cannot be made
abbrev pub IsSearchFault : Type 0 → Clock → Fields → TzError → Type 0
IsSearchFault takes_memory clock f e =
    ((e ≡ faults.Memory alloc_error) × takes_memory)
    ⊎ ((e ≡ faults.OutOfRange) × OneCannotBeMade clock f)

-- the fields have a fault, or they are valid and the search is refused
abbrev pub IsFindFault : Type 0 → Clock → Fields → TzError → Type 0
IsFindFault takes_memory clock f e = IsFieldFault f e
    ⊎ (IsValid f × IsSearchFault takes_memory clock f e)

-- a year that is 200 years or more from both ends of 32 bits
abbrev pub IsFarFromEnds : ℤ → Type 0
IsFarFromEnds year = (negsuc 2147483447 ≤ℤ year) × (year ≤ℤ pos 2147483447)

-- a year that is three years or more from both ends of 32 bits
abbrev pub IsInsideEnds : ℤ → Type 0
IsInsideEnds year = (negsuc 2147483644 ≤ℤ year) × (year ≤ℤ pos 2147483644)

-- the offsets of a rule, if there is one, are such as an alternate rule may have
abbrev pub HasRuleOffsets : Option TransitionRule → Type 0
HasRuleOffsets (Some (Fixed t)) = IsRuleOffset t.ut_offset
HasRuleOffsets (Some (Alternate r)) = IsRuleOffset r.std.ut_offset × IsRuleOffset r.dst.ut_offset
HasRuleOffsets None = ⊤

-- so are all offsets of the zone
abbrev pub HasPlainOffsets : Zone → Type 0
HasPlainOffsets z = ((i : ℕ) (t : LocalTimeType) → IsTypeAt z i t → IsRuleOffset t.ut_offset)
    × HasRuleOffsets z.extra_rule

-- the list of all that is found is promised: in years far from the ends, and up to near the ends in
-- a zone with such offsets
abbrev pub IsPromised : Zone → ℤ → Type 0
IsPromised z year = IsFarFromEnds year ⊎ (IsInsideEnds year × HasPlainOffsets z)
