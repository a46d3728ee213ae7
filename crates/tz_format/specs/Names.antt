-- The names of months and of days of the week, in the locale of C.
use Rattle.std.specs.Prelude.{ℕ, ◌-◌, List, [], ◌∷◌, take, codes, get_or}

abbrev pub month_names : List (List ℕ)
month_names = codes "January" ∷ codes "February" ∷ codes "March" ∷ codes "April" ∷ codes "May"
    ∷ codes "June" ∷ codes "July" ∷ codes "August" ∷ codes "September" ∷ codes "October"
    ∷ codes "November" ∷ codes "December" ∷ []

abbrev pub week_day_names : List (List ℕ)
week_day_names = codes "Sunday" ∷ codes "Monday" ∷ codes "Tuesday" ∷ codes "Wednesday"
    ∷ codes "Thursday" ∷ codes "Friday" ∷ codes "Saturday" ∷ []

-- the name of a month, from 1
abbrev pub month_name : ℕ → List ℕ
month_name month = get_or month_names (month - 1) []

-- the name of the day so many days after Sunday
abbrev pub week_day_name : ℕ → List ℕ
week_day_name day = get_or week_day_names day []

-- the first three letters
abbrev pub short : List ℕ → List ℕ
short name = take 3 name
