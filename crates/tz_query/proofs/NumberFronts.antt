-- The number at the front of bytes is one alone, and so are numbers after spaces.
use Rattle.tz_query.proofs.Common.{sym, subst, refl, arith, ◌≡◌, [], ap, ◌∷◌, ◌∙◌, ◌++◌, length, ℕ, inl, List, inr, ◌<◌, append_assoc, ℤ, drop, pos, ◌≤◌, append-nil, IsPartFront, ArePartsFront, digits_value, EndsDigits, FitsSigned, IsNumberFront, Some, space, ◌⊎◌, AreNumbers, hyphen, neg_ℤ, IsDigits, IsNumber, None, Option, IfNone}
use Rattle.std.specs.Int.{w64}
use Rattle.tz.proofs.TextFronts.{digits_front_unique}

-- digits at the front of bytes are a number, and so they are after a minus
pub plain_number : (bytes digits rest : List ℕ) → IsDigits bytes digits rest → 0 < length digits
    → IsNumberFront bytes (pos (digits_value 10 digits)) rest
plain_number bytes digits rest front some =
    record {
      text = digits;
      whole = front.whole;
      is_number = (digits, (some, front.all_digits), inl (refl, refl));
      ends = front.ends;
    }

pub minus_number : (bytes after digits rest : List ℕ) → bytes ≡ hyphen ∷ after → IsDigits after digits rest
    → 0 < length digits → IsNumberFront bytes (neg_ℤ (pos (digits_value 10 digits))) rest
minus_number bytes after digits rest minus front some =
    record {
      text = hyphen ∷ digits;
      whole = minus ∙ ap (λ bs. hyphen ∷ bs) front.whole;
      is_number = (digits, (some, front.all_digits), inr (refl, refl));
      ends = front.ends;
    }

-- what stands at the front of bytes that have no digit there, or a minus
digits_stand_first : (bytes digits rest : List ℕ) → IsDigits bytes digits rest → 0 < length digits → EndsDigits bytes
    → ⊥
digits_stand_first bytes [] rest front some ends = absurd (omega arith)
digits_stand_first bytes (d ∷ digits) rest front some ends = subst EndsDigits front.whole ends front.all_digits.0

minus_stands_first : (bytes after digits rest : List ℕ) → bytes ≡ hyphen ∷ after → IsDigits bytes digits rest
    → 0 < length digits → ⊥
minus_stands_first bytes after digits rest minus front some =
    digits_stand_first bytes digits rest front some
    (subst EndsDigits (sym minus) (λ digit. absurd (omega (arith, digit))))

-- a number at the front of bytes is plain, or has a minus
abbrev IsPlainFront : List ℕ → ℤ → List ℕ → Type 0
IsPlainFront bytes n rest = (digits : List ℕ) × IsDigits bytes digits rest × (0 < length digits)
    × (n ≡ pos (digits_value 10 digits))

abbrev IsMinusFront : List ℕ → ℤ → List ℕ → Type 0
IsMinusFront bytes n rest = (after : List ℕ) × (digits : List ℕ) × (bytes ≡ hyphen ∷ after) × IsDigits after digits rest
    × (0 < length digits) × (n ≡ neg_ℤ (pos (digits_value 10 digits)))

number_front_cases : (bytes : List ℕ) (n : ℤ) (rest : List ℕ) → IsNumberFront bytes n rest → IsPlainFront bytes n rest
    ⊎ IsMinusFront bytes n rest
number_front_cases bytes n rest front = cases front.is_number
  where
    cases : IsNumber front.text n → IsPlainFront bytes n rest ⊎ IsMinusFront bytes n rest
    cases (digits, numeral, inl (text, value)) =
        inl (
          digits,
          record {
            whole = front.whole ∙ ap (λ t. t ++ rest) text;
            all_digits = numeral.1;
            ends = front.ends;
          },
          numeral.0,
          value,
        )
    cases (digits, numeral, inr (text, value)) =
        inr (
          digits ++ rest,
          digits,
          front.whole ∙ ap (λ t. t ++ rest) text,
          record {
            whole = refl;
            all_digits = numeral.1;
            ends = front.ends;
          },
          numeral.0,
          value,
        )

digits_unique : (bytes digits digits' rest rest' : List ℕ) → IsDigits bytes digits rest → IsDigits bytes digits' rest'
    → (digits ≡ digits') × (rest ≡ rest')
digits_unique bytes digits digits' rest rest' front front' =
    digits_front_unique digits digits' rest rest' front.all_digits front'.all_digits front.ends front'.ends
    (sym front.whole ∙ front'.whole)

-- the number at the front of bytes, and what follows it, are these alone
pub number_front_unique : (bytes : List ℕ) (n n' : ℤ) (rest rest' : List ℕ) → IsNumberFront bytes n rest
    → IsNumberFront bytes n' rest' → (n ≡ n') × (rest ≡ rest')
number_front_unique bytes n n' rest rest' front front' =
    both (number_front_cases bytes n rest front) (number_front_cases bytes n' rest' front')
  where
    both : IsPlainFront bytes n rest ⊎ IsMinusFront bytes n rest → IsPlainFront bytes n' rest'
        ⊎ IsMinusFront bytes n' rest' → (n ≡ n') × (rest ≡ rest')
    both (inl (digits, is, some, value)) (inl (digits', is', some', value')) =
        let same = digits_unique bytes digits digits' rest rest' is is' in
        (value ∙ ap (λ ds. pos (digits_value 10 ds)) same.0 ∙ sym value', same.1)
    both (inl (digits, is, some, value)) (inr (after, digits', minus, is', some', value')) =
        absurd (minus_stands_first bytes after digits rest minus is some)
    both (inr (after, digits, minus, is, some, value)) (inl (digits', is', some', value')) =
        absurd (minus_stands_first bytes after digits' rest' minus is' some')
    both (inr (after, digits, minus, is, some, value)) (inr (after', digits', minus', is', some', value')) =
        let same = digits_unique after digits digits' rest rest' is
        (subst (λ bs. IsDigits bs digits' rest') (sym (cc (minus, minus'))) is') in
        (value ∙ ap (λ ds. neg_ℤ (pos (digits_value 10 ds))) same.0 ∙ sym value', same.1)

-- a number begins with a digit, or with a minus and a digit
pub no_number : (bytes : List ℕ) → EndsDigits bytes → ((after : List ℕ) → bytes ≡ hyphen ∷ after → EndsDigits after)
    → (n : ℤ) (rest : List ℕ) → ¬ IsNumberFront bytes n rest
no_number bytes ends ends_after n rest front =
    elim (number_front_cases bytes n rest front) [
      | inl is ↦ digits_stand_first bytes is.0 rest is.1 is.2 ends
      | inr is ↦ digits_stand_first is.0 is.1 rest is.3 is.4 (ends_after is.0 is.2)
    ]

-- no number of 64 bits is first, as if the one there is too great
abbrev pub NoNumber : List ℕ → Type 0
NoNumber bytes = (n : ℤ) (rest : List ℕ) → FitsSigned w64 n → ¬ IsNumberFront bytes n rest

pub no_other_number : (bytes rest : List ℕ) (n : ℤ) → IsNumberFront bytes n rest → ¬ FitsSigned w64 n → NoNumber bytes
no_other_number bytes rest n front out m rest' fits front' =
    out (subst (FitsSigned w64) (sym (number_front_unique bytes n m rest rest' front front').0) fits)

-- what holds anyway holds of none
pub IfNone-anyway : {T P : Type 0} (o : Option T) → P → IfNone o P
IfNone-anyway None holds = holds
IfNone-anyway (Some x) holds = tt

-- a text that is a number is one before nothing
pub number_front_whole : (text : List ℕ) (n : ℤ) → IsNumber text n → IsNumberFront text n []
number_front_whole text n is = record { text = text; whole = sym (append-nil text); is_number = is; ends = tt }

pub no_number_before_more : (text rest : List ℕ) (n : ℤ) → IsNumberFront text n rest → 0 < length rest → (n' : ℤ)
    → ¬ IsNumber text n'
no_number_before_more text rest n front more n' is =
    omega (arith, more, ap length ((number_front_unique text n n' rest [] front (number_front_whole text n' is)).1))

-- the number after a space, and what follows it, are these alone
pub part_unique : (bytes : List ℕ) (n n' : ℤ) (rest rest' : List ℕ) → IsPartFront bytes n rest
    → IsPartFront bytes n' rest' → (n ≡ n') × (rest ≡ rest')
part_unique bytes n n' rest rest' (after, spaced, front) (after', spaced', front') =
    number_front_unique after n n' rest rest' front
    (subst (λ bs. IsNumberFront bs n' rest') (cc (spaced, spaced')) front')

-- so are as many numbers
pub parts_unique : (bytes : List ℕ) (numbers others : List ℤ) (rest rest' : List ℕ) → length numbers ≡ length others
    → ArePartsFront bytes numbers rest → ArePartsFront bytes others rest' → (numbers ≡ others) × (rest ≡ rest')
parts_unique bytes [] [] rest rest' same are are' = (refl, sym are ∙ are')
parts_unique bytes [] (m ∷ others) rest rest' same are are' = absurd (omega (arith, same))
parts_unique bytes (n ∷ numbers) [] rest rest' same are are' = absurd (omega (arith, same))
parts_unique bytes (n ∷ numbers) (m ∷ others) rest rest' same (after, first, are) (after', first', are') =
    let one = part_unique bytes n m after after' first first' in
    let more = parts_unique after numbers others rest rest' (omega (arith, same)) are
    (subst (λ bs. ArePartsFront bs others rest') (sym one.1) are') in
    (cc (one.0, more.0), more.1)

-- what follows some of the numbers is the others
pub parts_after : (bytes : List ℕ) (numbers others : List ℤ) (rest tail : List ℕ) → length numbers ≤ length others
    → ArePartsFront bytes numbers rest → ArePartsFront bytes others tail
    → ArePartsFront rest (drop (length numbers) others) tail
parts_after bytes [] others rest tail few are are' = subst (λ bs. ArePartsFront bs others tail) are are'
parts_after bytes (n ∷ numbers) [] rest tail few are are' = absurd (omega (arith, few))
parts_after bytes (n ∷ numbers) (m ∷ others) rest tail few (after, first, are) (after', first', are') =
    parts_after after numbers others rest tail (omega (arith, few)) are
    (subst (λ bs. ArePartsFront bs others tail) (sym (part_unique bytes n m after after' first first').1) are')

-- one more number
pub parts_more : (bytes : List ℕ) (numbers : List ℤ) (rest : List ℕ) (n : ℤ) (after : List ℕ)
    → ArePartsFront bytes numbers rest → IsPartFront rest n after → ArePartsFront bytes (numbers ++ n ∷ []) after
parts_more bytes [] rest n after are next = (after, subst (λ bs. IsPartFront bs n after) (sym are) next, refl)
parts_more bytes (m ∷ numbers) rest n after (beyond, first, are) next =
    (beyond, first, parts_more beyond numbers rest n after are next)

-- numbers stand before what follows them, if no digit does
EndsDigits-parts : (text : List ℕ) (numbers : List ℤ) (tail : List ℕ) → AreNumbers text numbers → EndsDigits tail
    → EndsDigits (text ++ tail)
EndsDigits-parts text [] tail are ends = subst (λ t. EndsDigits (t ++ tail)) (sym are) ends
EndsDigits-parts text (n ∷ numbers) tail (number, rest, whole, is, are) ends =
    subst (λ t. EndsDigits (t ++ tail)) (sym whole) (λ digit. absurd (omega (arith, digit)))

pub parts_in_front : (text : List ℕ) (numbers : List ℤ) (tail : List ℕ) → AreNumbers text numbers → EndsDigits tail
    → ArePartsFront (text ++ tail) numbers tail
parts_in_front text [] tail are ends = ap (λ t. t ++ tail) are
parts_in_front text (n ∷ numbers) tail (number, rest, whole, is, are) ends =
    let cut : text ++ tail ≡ space ∷ (number ++ (rest ++ tail)) =
    ap (λ t. t ++ tail) whole ∙ ap (λ t. space ∷ t) (append_assoc number rest tail) in (
      rest ++ tail,
      (
        number ++ (rest ++ tail),
        cut,
        record {
          text = number;
          whole = refl;
          is_number = is;
          ends = EndsDigits-parts rest numbers tail are ends;
        },
      ),
      parts_in_front rest numbers tail are ends,
    )

pub numbers_from_parts : (bytes : List ℕ) (numbers : List ℤ) (tail : List ℕ) → ArePartsFront bytes numbers tail
    → (text : List ℕ) × (bytes ≡ text ++ tail) × AreNumbers text numbers
numbers_from_parts bytes [] tail are = ([], are, refl)
numbers_from_parts bytes (n ∷ numbers) tail (after, (beyond, spaced, front), are) =
    let more = numbers_from_parts after numbers tail are in
    let text = front.text in (
      space ∷ (text ++ more.0),
      spaced ∙ ap (λ bs. space ∷ bs) (front.whole ∙ ap (λ bs. text ++ bs) more.1 ∙ sym (append_assoc text more.0 tail)),
      (text, more.0, refl, front.is_number, more.2),
    )
