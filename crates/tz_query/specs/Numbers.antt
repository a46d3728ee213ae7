-- Numbers as lines have them.
use Rattle.std.specs.Prelude.{◌≡◌, ℕ, ◌⊎◌, ℤ, pos, neg_ℤ, List, [], ◌∷◌, ◌++◌}
use Rattle.std.specs.Str.Parse.{IsNumeral, digits_value}
use Rattle.tz.specs.DateTimeGrammar.{EndsDigits}

-- the sign of a negative number, and what stands before each number
abbrev pub hyphen : ℕ
hyphen = 45

abbrev pub space : ℕ
space = 32

-- a number is an optional `-` and one or more digits
abbrev pub IsNumber : List ℕ → ℤ → Type 0
IsNumber text n =
    (digits : List ℕ) × IsNumeral 10 digits
    × (((text ≡ digits) × (n ≡ pos (digits_value 10 digits)))
    ⊎ ((text ≡ hyphen ∷ digits) × (n ≡ neg_ℤ (pos (digits_value 10 digits)))))

-- the number at the front of the bytes, and what follows it
pub record IsNumberFront (bytes : List ℕ) (n : ℤ) (rest : List ℕ) : Type 0 where
  pub text : List ℕ
  pub whole : bytes ≡ text ++ rest
  pub is_number : IsNumber text n
  pub ends : EndsDigits rest

-- numbers, each after one space
abbrev pub AreNumbers : List ℕ → List ℤ → Type 0
AreNumbers text [] = text ≡ []
AreNumbers text (n ∷ numbers) =
    (number : List ℕ) × (rest : List ℕ) × (text ≡ space ∷ (number ++ rest)) × IsNumber number n
    × AreNumbers rest numbers

-- the number after one space at the front of the bytes, and what follows it
abbrev pub IsPartFront : List ℕ → ℤ → List ℕ → Type 0
IsPartFront bytes n rest = (after : List ℕ) × (bytes ≡ space ∷ after) × IsNumberFront after n rest

-- such numbers in turn, and what follows the last of them
abbrev pub ArePartsFront : List ℕ → List ℤ → List ℕ → Type 0
ArePartsFront bytes [] rest = bytes ≡ rest
ArePartsFront bytes (n ∷ numbers) rest = (after : List ℕ) × IsPartFront bytes n after
    × ArePartsFront after numbers rest
