-- A name of a time zone is ASCII, and so it is text.
use Rattle.tz_c.proofs.Common.{refl, inl, inr, ◌≡◌, arith, ◌<◌, ℕ, List, [], suc, zero, ◌∷◌, Bool, eqb-true, false, true, ◌==◌, All, cond, onto_first, slice_split}
use Rattle.std.specs.Str.{IsAscii, IsUtf8}
use Rattle.std.proofs.lemmas.List.Elements.{All-nil, All-cons, All-head, All-tail}
use Rattle.std.proofs.lemmas.Str.{IsUtf8-from_ascii}
use Rattle.tz_zone.specs.Bytes.{slash}
use Rattle.tz_zone.specs.ZoneNames.{IsZoneName, IsZoneNameByte}

below : (b : ℕ) → IsZoneNameByte b → b < 128
below b (inl digit) = omega (arith, digit.1)
below b (inr (inl capital)) = omega (arith, capital.1)
below b (inr (inr (inl small))) = omega (arith, small.1)
below b (inr (inr (inr (inl dot)))) = omega (arith, dot)
below b (inr (inr (inr (inr (inl line))))) = omega (arith, line)
below b (inr (inr (inr (inr (inr (inl plus)))))) = omega (arith, plus)
below b (inr (inr (inr (inr (inr (inr minus)))))) = omega (arith, minus)

abbrev parts_of : List ℕ → List (List ℕ)
parts_of name = slice_split (λ b. b == slash) name

abbrev AreNameBytes : List ℕ → Type 0
AreNameBytes part = All IsZoneNameByte part

abbrev IsBelow128 : ℕ → Type 0
IsBelow128 b = b < 128

-- a byte before the first part, and the parts
onto : (x : ℕ) (parts : List (List ℕ)) → All AreNameBytes (onto_first x parts)
    → IsZoneNameByte x × All AreNameBytes parts
onto x [] all = (All-head IsZoneNameByte x [] (All-head AreNameBytes (x ∷ []) [] all), All-nil AreNameBytes)
onto x (part ∷ parts) all =
    let first = All-head AreNameBytes (x ∷ part) parts all in (
      All-head IsZoneNameByte x part first,
      All-cons AreNameBytes part parts (All-tail IsZoneNameByte x part first)
          (All-tail AreNameBytes (x ∷ part) parts all),
    )

-- a byte and those after it: a slash before more parts, or a byte of the first part
step : (x : ℕ) (xs : List ℕ) (test : Bool) → (x == slash) ≡ test
    → All AreNameBytes (cond test ([] ∷ parts_of xs) (onto_first x (parts_of xs)))
    → IsBelow128 x × All AreNameBytes (parts_of xs)
step x xs true is all = (omega (arith, eqb-true x slash is), All-tail AreNameBytes [] (parts_of xs) all)
step x xs false is all = let parts = onto x (parts_of xs) all in (below x parts.0, parts.1)

all_below : (name : List ℕ) → All AreNameBytes (parts_of name) → All IsBelow128 name
all_below [] all = All-nil IsBelow128
all_below (x ∷ xs) all =
    let parts = step x xs (x == slash) refl all in All-cons IsBelow128 x xs parts.0 (all_below xs parts.1)

ascii : (name : List ℕ) → All IsBelow128 name → IsAscii name
ascii [] all i = omega arith
ascii (x ∷ xs) all zero = All-head IsBelow128 x xs all
ascii (x ∷ xs) all (suc i) = ascii xs (All-tail IsBelow128 x xs all) i

pub name_is_text : (name : List ℕ) → IsZoneName name → IsUtf8 name
name_is_text name is = IsUtf8-from_ascii name (ascii name (all_below name (λ k d less. (is k d less).bytes)))
