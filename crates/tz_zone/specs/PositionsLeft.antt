-- What is left of a search for a position by halving.
use Rattle.std.specs.Prelude.{ℕ, ◌+◌, ◌-◌, ◌≤◌, ℤ, List, length}
use Rattle.tz_zone.specs.Table.{Transition}
use Rattle.tz_zone.specs.Clock.{AreReached, AreAhead}

-- a leap time lies at one of so many positions, the first of which is this one
abbrev pub IsAmongPositions : List Transition → ℤ → ℕ → ℕ → Type 0
IsAmongPositions transitions l position count =
    (position + count ≤ length transitions) × AreReached transitions l position
    × AreAhead transitions l (position + count - 1)
