-- Starts and ends of daylight saving time over all whole years, as two functions from years to
-- instants.
use Rattle.std.specs.Prelude.{◌≡◌, ◌⊎◌, ℤ, pos, ◌+ℤ◌, ◌≤ℤ◌, ◌<ℤ◌}

-- at a distance in years, start and end have one strict order in year y and the other one in year x
abbrev pub IsConflict : (ℤ → ℤ) → (ℤ → ℤ) → ℤ → ℤ → ℤ → Type 0
IsConflict starts ends x y k = (starts y <ℤ ends (y +ℤ k)) × (ends (x +ℤ k) <ℤ starts x)

-- some distance has a conflict
abbrev pub IsInconsistent : (ℤ → ℤ) → (ℤ → ℤ) → Type 0
IsInconsistent starts ends = (x : ℤ) × (y : ℤ) × (k : ℤ) × IsConflict starts ends x y k

-- some year's end comes before its start
abbrev pub EndsNextYear : (ℤ → ℤ) → (ℤ → ℤ) → Type 0
EndsNextYear starts ends = (y : ℤ) × (ends y <ℤ starts y)

-- the end that belongs to the start of a year: the next year's if the rule ends in the next year,
-- else the same year's
abbrev pub IsPairedEnd : (ℤ → ℤ) → (ℤ → ℤ) → ℤ → ℤ → Type 0
IsPairedEnd starts ends y end = (EndsNextYear starts ends × (end ≡ ends (y +ℤ pos 1)))
    ⊎ (¬ EndsNextYear starts ends × (end ≡ ends y))

-- an instant from some year's start up to, not including, its paired end
abbrev pub IsDaylight : (ℤ → ℤ) → (ℤ → ℤ) → ℤ → Type 0
IsDaylight starts ends u = (y : ℤ) × (end : ℤ) × IsPairedEnd starts ends y end × (starts y ≤ℤ u)
    × (u <ℤ end)
