-- Digits that are cut out of a text are text, and `parse` gives their number or says that there are none, or too many.
use Rattle.tz_zone.proofs.Common.{◌≡◌, arith, ℕ, refl, sym, inr, inl, length, ℤ, ◌∙◌, ◌<◌, ap, List, pos, ◌≤◌, [], ◌+◌, ◌≢◌, false, ◌∷◌, true, Bool, cases_lt, get_or, take_while, Err, Result, cond, nil_from_length, ◌^◌, IsNumber, IsRun, ParseInt, is_ascii_digit, take_while-cons, IsNumberFault, digits_value, ne_eqb, ◌*◌, ExplainsSignedError, ExplainsUnsignedError, IsAscii, IsInRange, IsParseIntError, IsUtf8, OkIff, ParsesSigned, ParsesUnsigned, all_ascii_digits, digit_value, error_kind, get_or_past, le-leb, starts_with_minus, ◌&&◌}
use Rattle.std.proofs.lemmas.Str.{IsUtf8-from_ascii, digit_value_digit}
use Rattle.std.proofs.lemmas.Str.Parse.{IsNumeralModel, numerals_by_value, tells_all_ascii_digits, digit_at, not_in_digits, without_leading_plus_none, parse_digits, parse_signed_digits}
use Rattle.std.specs.Int.{w32}
use Rattle.std.specs.declared.num.IntErrorKind.TheVariants.{PosOverflow}
use Rattle.std.specs.declared.num.ParseIntError.{ParseIntError}

one_more : (digit : Bool) (b : ℕ) (ds : List ℕ) → is_ascii_digit b ≡ digit → all_ascii_digits ds ≡ true
    → all_ascii_digits (cond digit (b ∷ ds) []) ≡ true
one_more true b ds e h = ap (λ d. d && all_ascii_digits ds) e ∙ h
one_more false b ds e h = refl

-- the bytes of a run of digits are digits
all_digits : (text : List ℕ) → all_ascii_digits (take_while is_ascii_digit text) ≡ true
all_digits [] = refl
all_digits (b ∷ bs) = rw (take_while-cons is_ascii_digit b bs)
    (one_more (is_ascii_digit b) b (take_while is_ascii_digit bs) refl (all_digits bs))

pub run_has_digits : {text digits rest : List ℕ} → IsRun is_ascii_digit text digits rest
    → all_ascii_digits digits ≡ true
run_has_digits {text} run = rw run.longest (all_digits text)

own : IsNumeralModel (λ ds. all_ascii_digits ds ≡ true) (digits_value 10)
own = numerals_by_value _ tells_all_ascii_digits

is_ascii : (ds : List ℕ) → all_ascii_digits ds ≡ true → IsAscii ds
is_ascii ds h i = elim (cases_lt i (length ds)) [
  | inl within ↦ let range = digit_at ds i (own.to ds h) within in omega (arith, range.1)
  | inr past ↦ rw (get_or_past ds i 0 past) (omega arith)
]

pub digits_are_text : {text digits rest : List ℕ} → IsRun is_ascii_digit text digits rest → IsUtf8 digits
digits_are_text {digits = digits} run = IsUtf8-from_ascii digits (is_ascii digits (run_has_digits run))

-- digits begin with no sign, so `parse` reads them all
no_byte_but_digits : (ds : List ℕ) (c : ℕ) → all_ascii_digits ds ≡ true → ¬ IsInRange 48 57 c → 0 < c
    → get_or ds 0 0 ≢ c
no_byte_but_digits ds c digits other some = elim (cases_lt 0 (length ds)) [
  | inl within ↦ not_in_digits own ds c digits other 0 within
  | inr past ↦ λ same. let none : 0 ≡ c = sym (get_or_past ds 0 0 past) ∙ same in omega (arith, some, none)
]

no_plus : (ds : List ℕ) → all_ascii_digits ds ≡ true → get_or ds 0 0 ≢ 43
no_plus ds digits = no_byte_but_digits ds 43 digits (λ range. omega (arith, range.0)) (omega arith)

no_minus : (ds : List ℕ) → all_ascii_digits ds ≡ true → starts_with_minus ds ≡ false
no_minus ds digits =
    ne_eqb (get_or ds 0 0) 45 (no_byte_but_digits ds 45 digits (λ range. omega (arith, range.0)) (omega arith))

-- why `parse` refuses a run of digits: there is none, or their number is too great
refused_digits : (bits : ℕ) (text digits rest : List ℕ) (inner : ParseIntError) → IsRun is_ascii_digit text digits rest
    → ¬ ((0 < length digits) × (digits_value 10 digits < 2 ^ bits))
    → IsParseIntError 10 digits digits PosOverflow (error_kind inner) → IsNumberFault bits text (ParseInt inner)
refused_digits bits text digits rest inner run none (inl empty) =
    inl ((inner, refl, empty.0), sym run.longest ∙ nil_from_length digits empty.1)
refused_digits bits text digits rest inner run none (inr (some, inl other)) =
    absurd (other.1 (some, own.to digits (run_has_digits run)))
refused_digits bits text digits rest inner run none (inr (some, inr over)) =
    inr ((inner, refl, over), (digits_value 10 digits, rest, number, too_great))
  where
    number : IsNumber text (digits_value 10 digits) rest
    number = record { digits = digits; run = run; some = λ empty. omega (arith, some, ap length empty); value = refl }

    too_great : 2 ^ bits ≤ digits_value 10 digits
    too_great = elim (cases_lt (digits_value 10 digits) (2 ^ bits)) [
      | inl fits ↦ absurd (none (some, fits))
      | inr above ↦ above
    ]

-- what `parse` gives at an unsigned type, and at 32 bits with a sign
unsigned_number : {E : Type 0} (bits : ℕ) (text digits rest : List ℕ) (r : Result ℕ E)
    → IsRun is_ascii_digit text digits rest → ParsesUnsigned bits 10 digits r
    → OkIff r ((0 < length digits) × (digits_value 10 digits < 2 ^ bits)) (digits_value 10 digits)
unsigned_number bits text digits rest r run h = parse_digits own bits digits r h (run_has_digits run)

signed_number : {E : Type 0} (text digits rest : List ℕ) (r : Result ℤ E)
    → IsRun is_ascii_digit text digits rest → ParsesSigned w32 10 digits r
    → OkIff r ((0 < length digits) × (digits_value 10 digits < 2 ^ 31)) (pos (digits_value 10 digits))
signed_number text digits rest r run h = parse_signed_digits own w32 digits r h (run_has_digits run)

-- what is wrong with a text where `parse` fails
pub unsigned_fault : (bits : ℕ) (text digits rest : List ℕ) (inner : ParseIntError)
    → IsRun is_ascii_digit text digits rest → ParsesUnsigned bits 10 digits (Err inner)
    → ExplainsUnsignedError {T = ℕ} 10 digits (Err inner)
    → IsNumberFault bits text (ParseInt inner)
unsigned_fault bits text digits rest inner run parses explains =
    refused_digits bits text digits rest inner run (unsigned_number bits text digits rest (Err inner) run parses)
    (rw (without_leading_plus_none digits (no_plus digits (run_has_digits run))) at explains)

pub signed_fault : (text digits rest : List ℕ) (inner : ParseIntError) → IsRun is_ascii_digit text digits rest
    → ParsesSigned w32 10 digits (Err inner) → ExplainsSignedError {T = ℤ} 10 digits (Err inner)
    → IsNumberFault 31 text (ParseInt inner)
signed_fault text digits rest inner run parses explains =
    refused_digits 31 text digits rest inner run (signed_number text digits rest (Err inner) run parses)
    (rw (without_leading_plus_none digits (no_plus digits (run_has_digits run))) at
    (rw (no_minus digits (run_has_digits run)) at explains))

digit_passes : (d : ℕ) → d ≤ 9 → is_ascii_digit (d + 48) ≡ true
digit_passes d small =
    rw (le-leb 48 (d + 48) (omega arith), le-leb (d + 48) 57 (omega (arith, small))) refl

digit_is : (d : ℕ) → d ≤ 9 → digit_value (d + 48) ≡ d
digit_is d small = let told = digit_value_digit (d + 48) (omega arith, omega (arith, small)) in omega (arith, told)

run_of_digit : (d : ℕ) (rest : List ℕ) → d ≤ 9
    → take_while is_ascii_digit ((d + 48) ∷ rest) ≡ (d + 48) ∷ take_while is_ascii_digit rest
run_of_digit d rest small = take_while-cons is_ascii_digit (d + 48) rest
    ∙ ap (λ passes. cond passes ((d + 48) ∷ take_while is_ascii_digit rest) []) (digit_passes d small)

-- a number of two digits
pub two_digits : (text rest after : List ℕ) (d e : ℕ) → d ≤ 9 → e ≤ 9 → text ≡ (d + 48) ∷ rest → rest ≡ (e + 48) ∷ after
    → take_while is_ascii_digit after ≡ [] → IsNumber text (10 * d + e) after
two_digits text rest after d e small small_too front next over = record {
  digits = (d + 48) ∷ (e + 48) ∷ [];
  run = record {
    longest = sym (ap (take_while is_ascii_digit) front ∙ run_of_digit d rest small ∙ ap (λ more. (d + 48) ∷ more)
        (ap (take_while is_ascii_digit) next ∙ run_of_digit e after small_too ∙ ap (λ more. (e + 48) ∷ more) over));
    parts = front ∙ ap (λ more. (d + 48) ∷ more) next;
  };
  some = λ none. cc;
  value = omega (arith, digit_is d small, digit_is e small_too);
}
