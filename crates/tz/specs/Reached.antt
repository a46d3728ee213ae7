-- The offsets of the types that the clock of a zone has.
use Rattle.std.specs.Prelude.{ℤ, ◌≤ℤ◌}
use Rattle.tz_rule.specs.LocalTimeType.{LocalTimeType}
use Rattle.tz_zone.specs.Table.{Zone}
use Rattle.tz_zone.specs.Clock.{IsClock}

-- the offsets of all types that the clock has are between these two
abbrev pub AreOffsetsOf : Zone → ℤ → ℤ → Type 0
AreOffsetsOf z least greatest = (u : ℤ) (t : LocalTimeType) → IsClock z u t → (least ≤ℤ t.ut_offset)
    × (t.ut_offset ≤ℤ greatest)
