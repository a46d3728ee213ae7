-- The number of the layout, and the sizes of the types that cross, in the order of the header.
use Rattle.std.specs.Prelude.{ℕ, List, [], ◌∷◌}

-- a local time type, a day, an alternate rule, a rule, a conflict
abbrev pub sizes_of_rules : List ℕ → List ℕ
sizes_of_rules sizes = 16 ∷ 6 ∷ 172 ∷ 192 ∷ 12 ∷ sizes

-- a transition, a leap second, the parts of a zone, its end offsets, a zone
abbrev pub sizes_of_zones : List ℕ → List ℕ
sizes_of_zones sizes = 16 ∷ 16 ∷ 80 ∷ 8 ∷ 88 ∷ sizes

-- fields, a date time of UTC, a date time, what a search finds
abbrev pub sizes_of_date_times : List ℕ → List ℕ
sizes_of_date_times sizes = 16 ∷ 24 ∷ 40 ∷ 88 ∷ sizes

-- a segment, a change, the sizes of a file, a setting, what a text of a date time says
abbrev pub layout : List ℕ
layout = 2 ∷ sizes_of_rules (sizes_of_zones (sizes_of_date_times (40 ∷ 40 ∷ 32 ∷ 24 ∷ 32 ∷ [])))
