-- The numbers of rule days. (POSIX.1-2017, Base Definitions, 8.3: Jn and n.)
use Rattle.std.specs.Prelude.{ℕ, ◌≤◌}

-- a day of the year that is not February 29th, from 1
abbrev pub IsJulianDay : ℕ → Type 0
IsJulianDay n = (1 ≤ n) × (n ≤ 365)

-- days after January 1st
abbrev pub IsZeroBasedDay : ℕ → Type 0
IsZeroBasedDay n = n ≤ 365
