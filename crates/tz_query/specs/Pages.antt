-- How much room a page of printed lines has, and how it ends.
use Rattle.std.specs.Prelude.{◌≡◌, ℕ, ◌+◌, ◌≤◌, List, [], ◌∷◌, ◌++◌, length}
use Rattle.tz_query.specs.Lines.{line_feed}

-- this number of bytes fits onto a page of 2040 bytes
abbrev pub HasRoomFor : ℕ → List ℕ → Type 0
HasRoomFor bytes page = length page + bytes ≤ 2040

-- one more answer of two date times fits, since it has at most 160 bytes
abbrev pub HasRoom : List ℕ → Type 0
HasRoom page = HasRoomFor 160 page

-- the last line on the page is whole
abbrev pub EndsLine : List ℕ → Type 0
EndsLine page = (text : List ℕ) × (page ≡ text ++ line_feed ∷ [])
