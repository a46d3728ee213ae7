-- Likely years: the year of an instant, or a neighbour that ends near by. Their switches determine
-- the segment if all switches are far inside their years.
use Rattle.std.specs.Prelude.{ℕ, Bool, ℤ, pos, negsuc, not, ◌+ℤ◌, ◌-ℤ◌, ◌*ℤ◌, ◌≤ℤ◌, ◌<ℤ◌}
use Rattle.tz_base.specs.Days.{first_day}
use Rattle.tz_rule.specs.Alternate.{AlternateTime, switch_of}

-- the year that stands 5368710 cycles of 400 years later
abbrev pub moved_back : ℕ → ℤ
moved_back moved_year = pos moved_year -ℤ pos 2147484000

-- years whose neighbours are years of 32 bits
abbrev pub HasNeighbours : ℤ → Type 0
HasNeighbours year = (negsuc 2147483646 ≤ℤ year) × (year ≤ℤ pos 2147483646)

-- years whose neighbours are rule years too, and the neighbours of those
abbrev pub IsTriedYear : ℤ → Type 0
IsTriedYear year = (negsuc 2147483643 ≤ℤ year) × (year ≤ℤ pos 2147483643)

-- an instant that is ten days or more from both ends of the year in UTC, also if that has 365 days
abbrev pub IsInnerSwitch : ℤ → ℤ → Type 0
IsInnerSwitch u year = ((pos 86400 *ℤ first_day year +ℤ pos 864000) ≤ℤ u)
    × (u <ℤ (pos 86400 *ℤ first_day year +ℤ pos 30672000))

-- each start and each end is such an instant
abbrev pub HasInnerSwitches : AlternateTime → Type 0
HasInnerSwitches r = (is_end : Bool) (year : ℤ) → IsInnerSwitch (switch_of r is_end year) year

-- the instant is in the time from ten days before the year in UTC up to ten days after 365 days of
-- it
abbrev pub IsLikelyYear : ℤ → ℤ → Type 0
IsLikelyYear u year = ((pos 86400 *ℤ first_day year) ≤ℤ (u +ℤ pos 864000))
    × (u <ℤ (pos 86400 *ℤ first_day year +ℤ pos 32400000))

-- the first switches of a year and of the next one, and the last one of the year before, determine
-- the segment around an instant
abbrev pub IsDeterminingYear : AlternateTime → Bool → ℤ → ℤ → Type 0
IsDeterminingYear r end_is_first u year =
    (u <ℤ switch_of r end_is_first year → switch_of r (not end_is_first) (year -ℤ pos 1) ≤ℤ u)
    × (u <ℤ switch_of r end_is_first (year +ℤ pos 1))
