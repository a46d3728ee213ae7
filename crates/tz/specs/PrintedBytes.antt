-- Bytes in ranges, as those of printed texts are.
use Rattle.std.specs.Prelude.{ℕ, ◌+◌, ◌<◌, ◌≤◌, List, get_or}

-- the byte is a digit
abbrev pub IsDigitByte : ℕ → Type 0
IsDigitByte b = (48 ≤ b) × (b ≤ 57)

-- each of this many bytes from a position on is in its range
abbrev pub AreBetween : List ℕ → ℕ → ℕ → List ℕ → List ℕ → Type 0
AreBetween text position count least greatest =
    (i : ℕ) → i < count → (get_or least i 0 ≤ get_or text (position + i) 0)
    × (get_or text (position + i) 0 ≤ get_or greatest i 0)

-- the nine bytes from position 20 on are digits
abbrev pub AreDigitsFrom20 : List ℕ → Type 0
AreDigitsFrom20 text =
    IsDigitByte (get_or text 20 0) × IsDigitByte (get_or text 21 0) × IsDigitByte (get_or text 22 0)
    × IsDigitByte (get_or text 23 0) × IsDigitByte (get_or text 24 0)
    × IsDigitByte (get_or text 25 0) × IsDigitByte (get_or text 26 0)
    × IsDigitByte (get_or text 27 0) × IsDigitByte (get_or text 28 0)
