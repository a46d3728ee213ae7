-- A number of eight bytes has the bytes as its digits, so what keeps a name is determined by its word.
use Rattle.tz_rule.proofs.Common.{arith, ◌≡◌, ◌∙◌, ℕ, refl, sym, ◌<◌, ap, ◌-◌, List, ◌≤◌, get_or, suc, zero, length, [], subst, ◌∷◌, IsDesignationByte, All, Designation, IsDesignation, IsKept, replicate, take, word_of, length-append, seven_bytes, to_le_bytes, ◌++◌}
use Rattle.std.specs.Int.{w64}
use Rattle.std.proofs.Math.Seq.{take-append_seam, get_or-append_seam}
use Rattle.std.proofs.lemmas.Nat.{le_bytes_8}

abbrev AreBytes : List ℕ → Type 0
AreBytes xs = (i : ℕ) → get_or xs i 0 < 256

-- the bytes of a name, the zeros after it and its length are bytes
name_byte_below : (b : ℕ) → IsDesignationByte b → b < 256
name_byte_below b h = omega arith

AreBytes-name : (xs : List ℕ) → All IsDesignationByte xs → AreBytes xs
AreBytes-name [] h i = omega arith
AreBytes-name (x ∷ xs) h zero = name_byte_below x (h 0 0 (omega arith))
AreBytes-name (x ∷ xs) h (suc i) = AreBytes-name xs (λ k d l. h (suc k) d (omega (arith, l))) i

AreBytes-zeros : (n : ℕ) → AreBytes (replicate n 0)
AreBytes-zeros zero i = omega arith
AreBytes-zeros (suc n) zero = omega arith
AreBytes-zeros (suc n) (suc i) = AreBytes-zeros n i

AreBytes-append : (xs ys : List ℕ) → AreBytes xs → AreBytes ys → AreBytes (xs ++ ys)
AreBytes-append [] ys s t i = t i
AreBytes-append (x ∷ xs) ys s t zero = s 0
AreBytes-append (x ∷ xs) ys s t (suc i) = AreBytes-append xs ys (λ k. s (suc k)) t i

AreBytes-single : (x : ℕ) → x < 256 → AreBytes (x ∷ [])
AreBytes-single x below zero = below
AreBytes-single x below (suc i) = omega arith

-- the bytes of the name, of which there may be none
AreBytes-first : (n : ℕ) (bytes : List ℕ) → (1 ≤ n → IsDesignation (take n bytes)) → AreBytes (take n bytes)
AreBytes-first zero bytes name i = omega arith
AreBytes-first (suc n) bytes name i = AreBytes-name (take (suc n) bytes) (name (omega arith)).bytes_are i

AreBytes-kept : (d : Designation) → IsKept d → AreBytes (d.bytes ++ d.len ∷ [])
AreBytes-kept d k =
    let name = take d.len d.bytes in
    let seven : AreBytes d.bytes = subst AreBytes (sym k.is_padded)
    (AreBytes-append name (replicate (7 - length name) 0) (AreBytes-first d.len d.bytes k.is_name)
    (AreBytes-zeros (7 - length name))) in
    AreBytes-append d.bytes (d.len ∷ []) seven (AreBytes-single d.len (omega (arith, k.short)))

-- the bytes are the digits of the word
digits : (d : Designation) → IsKept d → to_le_bytes w64 (word_of d) ≡ d.bytes ++ d.len ∷ []
digits d k =
    le_bytes_8 (d.bytes ++ d.len ∷ []) (word_of d) (omega (arith, length-append d.bytes (d.len ∷ []), seven_bytes d k))
    (AreBytes-kept d k) refl

first_seven : (xs : List ℕ) (x : ℕ) → length xs ≡ 7 → take 7 (xs ++ x ∷ []) ≡ xs
first_seven xs x l = ap (λ n. take n (xs ++ x ∷ [])) (sym l) ∙ take-append_seam xs (x ∷ [])

eighth : (xs : List ℕ) (x : ℕ) → length xs ≡ 7 → get_or (xs ++ x ∷ []) 7 0 ≡ x
eighth xs x l = ap (λ n. get_or (xs ++ x ∷ []) n 0) (sym l) ∙ get_or-append_seam xs x [] 0

pub same_word : (d e : Designation) → IsKept d → IsKept e → word_of d ≡ word_of e → d ≡ e
same_word d e k l p =
    let eight : d.bytes ++ d.len ∷ [] ≡ e.bytes ++ e.len ∷ [] = sym (digits d k) ∙ ap (to_le_bytes w64) p
    ∙ digits e l in
    let bytes : d.bytes ≡ e.bytes = sym (first_seven d.bytes d.len (seven_bytes d k)) ∙ ap (take 7) eight
    ∙ first_seven e.bytes e.len (seven_bytes e l) in
    let len : d.len ≡ e.len = sym (eighth d.bytes d.len (seven_bytes d k)) ∙ ap (λ xs. get_or xs 7 0) eight
    ∙ eighth e.bytes e.len (seven_bytes e l) in
    ap (λ x. let r : Designation = record d { bytes = x } in
    r) bytes ∙ ap (λ x. let r : Designation = record e { len = x } in r) len
