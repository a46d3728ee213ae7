-- The types that a clock has in a window of instants. (RFC 8536, section 3.2: transition times and
-- types; 3.3: the footer.)
use Rattle.std.specs.Prelude.{◌≢◌, ⊤, ℕ, ◌≤◌, ℤ, ◌≤ℤ◌, ◌<ℤ◌, [], length, Option, MatchOption}
use Rattle.tz_rule.specs.LocalTimeType.{LocalTimeType}
use Rattle.tz_zone.specs.Table.{Zone}
use Rattle.tz_zone.specs.LeapTime.{IsLeapTimeRefused}
use Rattle.tz_zone.specs.ClockSegments.{IsReachedAt}
use Rattle.tz_zone.specs.declared.clock.window_types.WindowTypes.{WindowTypes}
use Rattle.tz_zone.specs.declared.clock.window_types.WindowTypes.TheVariants.{One, Two, More}

-- a clock has one type from the first instant up to the last one, or two with a jump between them
abbrev pub AreTypesIn : (ℤ → LocalTimeType → Type 0) → ℤ → ℤ → WindowTypes → Type 0
AreTypesIn clock low high (One t) = (v : ℤ) → low ≤ℤ v → v ≤ℤ high → clock v t.now
AreTypesIn clock low high (Two jump before after) =
    (low <ℤ jump) × (jump ≤ℤ high) × ((v : ℤ) → low ≤ℤ v → v <ℤ jump → clock v before.now)
    × ((v : ℤ) → jump ≤ℤ v → v ≤ℤ high → clock v after.now)
AreTypesIn clock low high (More position) = ⊤

-- the position at which an instant lies, if it has a leap time; without transitions it is 0
abbrev pub IsPositionOf : Zone → ℤ → Option ℕ → Type 0
IsPositionOf z u position = MatchOption position ((z.transitions ≢ [])
    × IsLeapTimeRefused z.leap_seconds u)
    (λ k. (k ≤ length z.transitions) × (z.transitions ≢ [] → IsReachedAt z u k))

-- a fact of the position where the types are not known
abbrev pub IfMore : WindowTypes → (Option ℕ → Type 0) → Type 0
IfMore (One t) fact = ⊤
IfMore (Two jump before after) fact = ⊤
IfMore (More position) fact = fact position
