-- At which instants a clock shows a reading, and where it is set forward over one. A reading with
-- no such instant is in a gap, one with two is in a fold.
use Rattle.std.specs.Prelude.{◌≡◌, ℤ, pos, ◌+ℤ◌, ◌-ℤ◌, ◌≤ℤ◌, ◌<ℤ◌}
use Rattle.tz_rule.specs.LocalTimeType.{LocalTimeType}

-- a clock determines at which instants a type holds
abbrev pub Clock : Type 1
Clock = ℤ → LocalTimeType → Type 0

-- the clock shows the reading at u
abbrev pub Shows : Clock → ℤ → ℤ → LocalTimeType → Type 0
Shows clock r u t = clock u t × ((u +ℤ t.ut_offset) ≡ r)

-- clocks that change at u from one type to another are set forward over the reading
abbrev pub IsJumpOver : ℤ → ℤ → LocalTimeType → LocalTimeType → Type 0
IsJumpOver r u before after = ((u +ℤ before.ut_offset) ≤ℤ r) × (r <ℤ (u +ℤ after.ut_offset))

-- the clock passes over the reading at u: the types before u and at u make a forward jump over it
abbrev pub PassesOver : Clock → ℤ → ℤ → LocalTimeType → LocalTimeType → Type 0
PassesOver clock r u before after = clock (u -ℤ pos 1) before × clock u after
    × IsJumpOver r u before after
