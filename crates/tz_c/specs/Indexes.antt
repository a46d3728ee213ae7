-- Where a type of a zone stands among its types: those of the list, and after them those of its
-- rule.
use Rattle.std.specs.Prelude.{◌≡◌, ◌≢◌, ℕ, ◌<◌, ℤ, List, [], ◌++◌, Option, Some, None, slice_get}
use Rattle.tz_rule.specs.LocalTimeType.{LocalTimeType}
use Rattle.tz_rule.specs.Rule.{types_of}
use Rattle.tz_rule.specs.declared.timezone.transition_rule.TransitionRule.{TransitionRule}
use Rattle.tz_zone.specs.Clock.{IsClock}
use Rattle.tz_zone.specs.Table.{Zone}

-- the types of a rule, if there is one: a fixed type, or those of standard time and of daylight
-- saving time
abbrev pub rule_types : Option TransitionRule → List LocalTimeType
rule_types None = []
rule_types (Some rule) = types_of rule

-- the type stands at some index of a list
abbrev pub Stands : List LocalTimeType → LocalTimeType → Type 0
Stands types t = (i : ℕ) × (slice_get types i ≡ Some t)

-- the first index of the type in a list
pub record IsFirstIndex (types : List LocalTimeType) (t : LocalTimeType) (index : ℕ) : Type 0 where
  pub at : slice_get types index ≡ Some t
  pub first : (k : ℕ) → k < index → slice_get types k ≢ Some t

-- the index is the first of the type that the zone's clock has at an instant
abbrev pub IsClockIndex : Zone → ℤ → ℕ → Type 0
IsClockIndex z u index =
    (t : LocalTimeType) × IsClock z u t × IsFirstIndex (z.types ++ rule_types z.extra_rule) t index
