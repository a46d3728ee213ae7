-- The offsets that a zone has, those of its types and of its rule.
use Rattle.std.specs.Prelude.{◌≡◌, ℕ, ◌⊎◌, ℤ, ◌≤ℤ◌, List, Option, Some, slice_get}
use Rattle.tz_rule.specs.LocalTimeType.{LocalTimeType}
use Rattle.tz_rule.specs.declared.timezone.transition_rule.TransitionRule.{TransitionRule}
use Rattle.tz_rule.specs.declared.timezone.transition_rule.TransitionRule.TheVariants.{Fixed, Alternate}
use Rattle.tz_zone.specs.Table.{Zone}

-- the offset of some type of a list
abbrev pub IsOffsetOfTypes : List LocalTimeType → ℤ → Type 0
IsOffsetOfTypes types o = (i : ℕ) × (t : LocalTimeType) × (slice_get types i ≡ Some t)
    × (o ≡ t.ut_offset)

-- the offset of a fixed rule's type, or of one of the two types of an alternate rule
abbrev pub IsOffsetOfRule : TransitionRule → ℤ → Type 0
IsOffsetOfRule (Fixed fixed) o = o ≡ fixed.ut_offset
IsOffsetOfRule (Alternate r) o = (o ≡ r.std.ut_offset) ⊎ (o ≡ r.dst.ut_offset)

-- the offset of some type that a zone has: one of its list, or of its rule
abbrev pub IsOffset : List LocalTimeType → Option TransitionRule → ℤ → Type 0
IsOffset types extra_rule o = IsOffsetOfTypes types o
    ⊎ ((rule : TransitionRule) × (extra_rule ≡ Some rule) × IsOffsetOfRule rule o)

-- the least of these, and the greatest
abbrev pub IsLeastOffset : List LocalTimeType → Option TransitionRule → ℤ → Type 0
IsLeastOffset types extra_rule least = IsOffset types extra_rule least
    × ((o : ℤ) → IsOffset types extra_rule o → least ≤ℤ o)

abbrev pub IsGreatestOffset : List LocalTimeType → Option TransitionRule → ℤ → Type 0
IsGreatestOffset types extra_rule greatest = IsOffset types extra_rule greatest
    × ((o : ℤ) → IsOffset types extra_rule o → o ≤ℤ greatest)

-- two numbers are the least offset of a zone and the greatest
abbrev pub AreEndOffsets : Zone → ℤ → ℤ → Type 0
AreEndOffsets z least greatest = IsLeastOffset z.types z.extra_rule least
    × IsGreatestOffset z.types z.extra_rule greatest
