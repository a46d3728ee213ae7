-- What a run over a reader and a writer has read and written, where their bytes are known.
use Rattle.std.specs.Prelude.{◌≡◌, ℕ, List, ◌++◌, Option}
use Rattle.std.specs.Io.KnownBytes.{Appends, Consumes, IsAtEnd}
use Rattle.tz_zone.specs.Table.{Zone}
use Rattle.tz_query.specs.Answers.{AreAnswers}

-- the reader is read to its end, and these bytes answer what was read
pub record AreAnswersOf (zone : Zone) (unread left : Option (List ℕ)) (answers : List ℕ) : Type 0
  where
    pub queries : List ℕ
    pub read : Consumes unread left queries
    pub at_end : IsAtEnd left
    pub answered : AreAnswers zone queries answers

-- the answers of what was read are written
abbrev pub WritesAnswers : Zone → Option (List ℕ) → Option (List ℕ) → Option (List ℕ)
    → Option (List ℕ) → Type 0
WritesAnswers zone unread left written now = (answers : List ℕ)
    × AreAnswersOf zone unread left answers × Appends written now answers

-- a front of the bytes is written
abbrev pub WritesFront : List ℕ → Option (List ℕ) → Option (List ℕ) → Type 0
WritesFront bytes written now = (front : List ℕ) × (rest : List ℕ) × (bytes ≡ front ++ rest)
    × Appends written now front

-- a front of the answers of what was read is written
abbrev pub WritesFrontOfAnswers : Zone → Option (List ℕ) → Option (List ℕ) → Option (List ℕ)
    → Option (List ℕ) → Type 0
WritesFrontOfAnswers zone unread left written now = (answers : List ℕ)
    × AreAnswersOf zone unread left answers × WritesFront answers written now
