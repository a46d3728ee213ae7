-- Digits at the front of bytes, and a number of two digits there, are these alone, and so is what follows them.
use Rattle.tz.proofs.Common.{arith, refl, ◌≡◌, subst, ◌∙◌, inr, sym, inl, [], ap, ℕ, ◌∷◌, ◌<◌, List, length, ◌+◌, pos, ℤ, ◌≤◌, ◌++◌, suc, zero, ◌*◌, ◌-◌, ◌%◌, ◌^◌, ◌/◌, digits_value, get_or, ◌≢◌, two_digits, decimal, drop, IsPair, Result, neg_ℤ, FitsSigned, IsFraction, decimal_digit, take, AllDigits, AreYearDigits, Begins, IsDigits, IsYear, length-decimal-le, length-drop, length-take, EndsDigits, IsNumeralModel, digits_value-lt, min, numerals_by_value, pow-suc, take_all, OkIff, decimal-digits_value, digit_value, digits_value_short, mul-lt-mul_of_pos_right, tells_digits}
use Rattle.std.proofs.lemmas.Nat.{pow-add}
use Rattle.std.specs.Int.{w32}
use Rattle.std.specs.Prelude.{None, Ok, Err}
use Rattle.std.specs.Result.{result_ok}
use Rattle.tz.proofs.PrintedDigits.{two_digits-below}

pub digits_front_unique : (digits digits' rest rest' : List ℕ) → AllDigits 10 digits → AllDigits 10 digits'
    → EndsDigits rest → EndsDigits rest' → digits ++ rest ≡ digits' ++ rest' → (digits ≡ digits') × (rest ≡ rest')
digits_front_unique [] [] rest rest' all all' ends ends' same = (refl, same)
digits_front_unique [] (d ∷ digits') rest rest' all all' ends ends' same = absurd (subst EndsDigits same ends all'.0)
digits_front_unique (d ∷ digits) [] rest rest' all all' ends ends' same =
    absurd (subst EndsDigits (sym same) ends' all.0)
digits_front_unique (d ∷ digits) (d' ∷ digits') rest rest' all all' ends ends' same =
    let first_same : d ≡ d' = cc in
    let (more, after) = digits_front_unique digits digits' rest rest' all.1 all'.1 ends ends' cc in
    (cc, after)

pub digits_unique : {text digits digits' rest rest' : List ℕ} → IsDigits text digits rest → IsDigits text digits' rest'
    → (digits ≡ digits') × (rest ≡ rest')
digits_unique {digits = digits} {digits' = digits'} {rest = rest} {rest' = rest'} front front' =
    digits_front_unique digits digits' rest rest' front.all_digits front'.all_digits front.ends front'.ends
    (sym front.whole ∙ front'.whole)

pair_bytes : (text rest : List ℕ) (n : ℕ) → n < 100 → text ≡ two_digits n ++ rest
    → text ≡ (48 + n / 10) ∷ (48 + n % 10) ∷ rest
pair_bytes text rest n below is = is ∙ ap (λ ds. ds ++ rest) (two_digits-below n below)

pub pair_unique : {least greatest least' greatest' : ℕ} {text : List ℕ} {n n' : ℕ} (rest rest' : List ℕ)
    → IsPair least greatest text n rest → IsPair least' greatest' text n' rest' → (n ≡ n') × (rest ≡ rest')
pair_unique {text = text} {n} {n'} rest rest' is is' =
    let bytes = pair_bytes text rest n is.0 is.1 in
    let bytes' = pair_bytes text rest' n' is'.0 is'.1 in
    let tens : 48 + n / 10 ≡ 48 + n' / 10 = cc in
    let ones : 48 + n % 10 ≡ 48 + n' % 10 = cc in
    (omega (arith, tens, ones), cc)

-- the bytes of a text that has two
bytes_are : (text : List ℕ) → 2 ≤ length text → text ≡ get_or text 0 0 ∷ get_or text 1 0 ∷ drop 2 text
bytes_are [] long = absurd (omega (arith, long))
bytes_are (a ∷ []) long = absurd (omega (arith, long))
bytes_are (a ∷ b ∷ text) long = refl

-- two digits at the front are those of their number
pub pair_of_bytes : (text : List ℕ) (tens ones : ℕ) → 2 ≤ length text → tens < 10 → ones < 10
    → get_or text 0 0 ≡ 48 + tens → get_or text 1 0 ≡ 48 + ones →
    text ≡ two_digits (10 * tens + ones) ++ take (length text - 2) (drop 2 text)
pair_of_bytes text tens ones long few few' first second =
    let tens_are : tens ≡ (10 * tens + ones) / 10 = omega arith in
    let ones_are : ones ≡ (10 * tens + ones) % 10 = omega arith in
    let all = take_all (length text - 2) (drop 2 text) (omega (arith, length-drop 2 text)) in
    bytes_are text long
    ∙ rw (
      all,
      two_digits-below (10 * tens + ones) (omega arith),
      first ∙ ap (λ d. 48 + d) tens_are,
      second
          ∙ ap (λ d. 48 + d) ones_are,
    ) refl

-- the bytes of a number of two digits
pub bytes_of_pair : {least greatest : ℕ} {text : List ℕ} {n : ℕ} (rest : List ℕ) → IsPair least greatest text n rest
    → (2 ≤ length text) × (get_or text 0 0 ≡ 48 + n / 10) × (get_or text 1 0 ≡ 48 + n % 10)
bytes_of_pair {text = text} {n} rest is =
    let bytes = pair_bytes text rest n is.0 is.1 in
    (omega (arith, ap length bytes), ap (λ bs. get_or bs 0 0) bytes, ap (λ bs. get_or bs 1 0) bytes)

own : IsNumeralModel (AllDigits 10) (digits_value 10)
own = numerals_by_value (AllDigits 10) tells_digits

power_pos : (k : ℕ) → 0 < 10 ^ k
power_pos zero = omega arith
power_pos (suc k) = omega (arith, pow-suc 10 k, power_pos k)

-- a fraction of up to nine digits is below a second
pub fraction_below : (k n : ℕ) → k ≤ 9 → n < 10 ^ (9 - k) → n * 10 ^ k < 1000000000
fraction_below k n few below =
    let nine : 9 - k + k ≡ 9 = omega arith in
    let whole : 10 ^ (9 - k) * 10 ^ k ≡ 10 ^ 9 = sym (pow-add 10 (9 - k) k) ∙ ap (λ e. 10 ^ e) nine in
    omega (arith, whole, mul-lt-mul_of_pos_right {k = 10 ^ k} below (power_pos k))

-- digits without a leading zero, or one alone, are those of a number as it is printed
pub printed_digits : (digits : List ℕ) → AllDigits 10 digits → 0 < length digits → length digits < 4
    → (get_or digits 0 0 ≡ 48 → length digits ≡ 1) → AreYearDigits digits
printed_digits digits all some few first =
    inr (sym (decimal-digits_value own digits all some first
    (omega (arith, digits_value_short own digits 3 all (omega (arith, few))))))

-- and no others of fewer than four are
pub no_printed_digits : (digits : List ℕ) → AllDigits 10 digits → length digits < 4 → get_or digits 0 0 ≡ 48
    → 2 ≤ length digits → ¬ AreYearDigits digits
no_printed_digits digits all few zeros some (inl many) = omega (arith, few, many)
no_printed_digits [] all few zeros some (inr is) = omega (arith, some)
no_printed_digits (d ∷ digits) all few zeros some (inr is) =
    let long = length-decimal-le (length digits) (digits_value 10 digits) (omega (arith, some))
    (digits_value-lt 10 digits all.1) (omega (arith, digits_value_short own digits 3 all.1 (omega (arith, few)))) in
    omega (arith, long, ap length is ∙ ap (λ n. length (decimal n)) (ap (λ b. digits_value 10 (b ∷ digits)) zeros))

pub no_year_without_digits : ¬ AreYearDigits []
no_year_without_digits (inl many) = omega (arith, many)
no_year_without_digits (inr is) = let none : length (decimal 0) ≡ 1 = ap length (decimal_digit 0 (omega arith)) in
    omega (arith, none, ap length is)

-- a year that begins with a minus, and one that does not
pub no_digits_at_minus : (text unsigned digits rest : List ℕ) → text ≡ 45 ∷ unsigned → IsDigits text digits rest
    → ¬ AreYearDigits digits
no_digits_at_minus text unsigned [] rest minus front = no_year_without_digits
no_digits_at_minus text unsigned (d ∷ digits) rest minus front =
    let same : d ≡ 45 = cc (minus, front.whole) in
    let digit : digit_value 45 < 10 = subst (λ b. digit_value b < 10) same front.all_digits.0 in
    absurd (omega (arith, digit))

pub no_year_after_minus : (text unsigned : List ℕ) → text ≡ 45 ∷ unsigned
    → ((digits rest : List ℕ) → IsDigits unsigned digits rest → AreYearDigits digits
    → ¬ FitsSigned w32 (neg_ℤ (pos (digits_value 10 digits))))
    → (y : ℤ) (rest : List ℕ) → ¬ IsYear text y rest
no_year_after_minus text unsigned minus none y rest (digits, are, fits, inl (front, value)) =
    no_digits_at_minus text unsigned digits rest minus front are
no_year_after_minus text unsigned minus none y rest (digits, are, fits, inr (unsigned', minus', front, value)) =
    let same : unsigned' ≡ unsigned = cc (minus, minus') in
    none digits rest (subst (λ bs. IsDigits bs digits rest) same front) are (subst (FitsSigned w32) value fits)

pub no_year_without_minus : (text : List ℕ) → ¬ Begins 45 text
    → ((digits rest : List ℕ) → IsDigits text digits rest → AreYearDigits digits
    → ¬ FitsSigned w32 (pos (digits_value 10 digits)))
    → (y : ℤ) (rest : List ℕ) → ¬ IsYear text y rest
no_year_without_minus text plain none y rest (digits, are, fits, inl (front, value)) =
    none digits rest front are (subst (FitsSigned w32) value fits)
no_year_without_minus text plain none y rest (digits, are, fits, inr (unsigned, minus, front, value)) =
    plain (unsigned, minus)

-- a fraction after a point has one to nine digits
pub no_fraction : (text after digits rest : List ℕ) → text ≡ 46 ∷ after → IsDigits after digits rest
    → ¬ ((1 ≤ length digits) × (length digits ≤ 9)) → (n : ℕ) (rest' : List ℕ) → ¬ IsFraction text n rest'
no_fraction text after digits rest point front none n rest' (inl is) = is.0 (after, point)
no_fraction text after digits rest point front none n rest' (inr (after', digits', point', front', some, few, value)) =
    let (digits_same, _) = digits_unique (subst (λ bs. IsDigits bs digits' rest') (cc (point, point')) front') front in
    none (subst (λ ds. (1 ≤ length ds) × (length ds ≤ 9)) digits_same (some, few))

-- what is read of a fraction: as many digits as were counted, with their number, and its nanoseconds
pub record FractionRead (text : List ℕ) (size count power : ℕ) : Type 0 where
  pub long : length (take count text) ≡ count
  pub size_is : size ≡ digits_value 10 (take count text)
  pub fits : size < 1000000000
  pub scaled : size * power ≡ digits_value 10 (take count text) * 10 ^ (9 - length (take count text))
  pub below : size * power < 1000000000

pub fraction_read : (text : List ℕ) (size count power : ℕ) → power ≡ 10 ^ (9 - count)
    → IsDigits text (take count text) (drop count text) → count ≤ length text → count ≢ 0 → count ≤ 9
    → min size 10000000000000000000 ≡ min (digits_value 10 (take count text)) 10000000000000000000
    → FractionRead text size count power
fraction_read text size count power is front within some few read =
    let digits = take count text in
    let long : length digits ≡ count = omega (arith, length-take count text, within) in
    let short : digits_value 10 digits < 1000000000 =
    digits_value_short own digits 9 front.all_digits (omega (arith, long, few)) in
    let same : size ≡ digits_value 10 digits = omega (arith, short, read) in
    let left : 9 - (9 - count) ≡ length digits = omega (arith, long, few) in
    let fewer : size < 10 ^ (9 - (9 - count)) = rw (same, left) (digits_value-lt 10 digits front.all_digits) in
    record {
      long = long;
      size_is = same;
      fits = omega (arith, short, same);
      scaled = ap (λ m. size * m) is ∙ ap (λ n. n * 10 ^ (9 - count)) same
          ∙ ap (λ k. digits_value 10 digits * 10 ^ (9 - k)) (sym long);
      below = rw is (fraction_below (9 - count) size (omega arith) fewer);
    }

-- a number that does not convert does not fit
pub unfit : {E : Type 0} (r : Result ℤ E) (Fits : Type 0) (x : ℤ) → OkIff r Fits x → result_ok r ≡ None → ¬ Fits
unfit (Ok y) Fits x fits none = absurd (cc none)
unfit (Err e) Fits x not none = not
