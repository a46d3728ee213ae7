-- How bytes are cut into lines.
use Rattle.std.specs.Prelude.{◌≡◌, ◌≢◌, ℕ, ◌⊎◌, List, [], ◌∷◌, ◌++◌, All}

-- LF, which ends a line
abbrev pub line_feed : ℕ
line_feed = 10

-- the bytes of a line: none of them is LF
abbrev pub IsLine : List ℕ → Type 0
IsLine line = All (λ b. b ≢ line_feed) line

-- lines, each ended by LF
abbrev pub ended : List (List ℕ) → List ℕ
ended [] = []
ended (line ∷ lines) = line ++ line_feed ∷ ended lines

-- bytes are cut at each LF, and what follows the last one is a line if it is not empty
abbrev pub IsCut : List ℕ → List (List ℕ) → Type 0
IsCut bytes lines =
    (bytes ≡ ended lines)
    ⊎ ((front : List (List ℕ)) × (last : List ℕ) × (lines ≡ front ++ last ∷ []) × (last ≢ [])
    × (bytes ≡ ended front ++ last))

-- the lines of the bytes
pub record AreLines (bytes : List ℕ) (lines : List (List ℕ)) : Type 0 where
  pub cut : IsCut bytes lines
  pub without_ends : All IsLine lines

-- LF ends a line, and so does the end of the bytes; what follows
abbrev pub IsLineEnd : List ℕ → List ℕ → Type 0
IsLineEnd tail rest = (tail ≡ line_feed ∷ rest) ⊎ ((tail ≡ []) × (rest ≡ []))

-- the first line of the bytes, and the bytes after its end
pub record IsFirstLine (bytes line rest : List ℕ) : Type 0 where
  pub tail : List ℕ
  pub cut : bytes ≡ line ++ tail
  pub end : IsLineEnd tail rest
  pub without_end : IsLine line
