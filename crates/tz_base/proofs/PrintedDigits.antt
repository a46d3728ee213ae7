-- Digits two at a time.
use Rattle.std.proofs.Common.{arith, refl, ◌≡◌, ◌∙◌, sym, [], ap, ℕ, ◌∷◌, ◌<◌, length, ◌+◌, pos, ℤ, ◌≤◌, ◌++◌, suc, zero, ◌<ℤ◌, ◌%◌, ◌^◌, append_assoc, ◌/◌, negsuc, append-nil, length-append}
use Rattle.std.proofs.lemmas.Int.{ints}
use Rattle.tz_base.specs.declared.fields.Fields.{Fields}
use Rattle.tz_base.specs.PrintedText.{two_digits, duration_text, nine_digits, offset_text, printed_text, date_text, time_text, two_digits_or_more, middle_text, last_digits}
use Rattle.std.specs.Fmt.{decimal, signed_decimal}
use Rattle.std.proofs.lemmas.Fmt.{decimal_digit, length-decimal-le, decimal_step}
use Rattle.std.proofs.lemmas.Str.Ascii.{IsAscii-cons, IsAscii-nil}
use Rattle.std.proofs.lemmas.Bool.Decides.{nat_tests}
use Rattle.std.proofs.lemmas.Str.{IsAscii-append}
use Rattle.std.specs.Prelude.{unsigned_abs, IsAscii}

-- the last digits, and the two before them
pub last_two_digits : (width n : ℕ) → last_digits (suc (suc width)) n ≡ last_digits width (n / 100) ++ two_digits
    (n % 100)
unfolding two_digits
last_two_digits width n =
    let tens : n % 100 / 10 % 10 ≡ n / 10 % 10 = omega arith in
    let ones : n % 100 % 10 ≡ n % 10 = omega arith in
    let front : n / 10 / 10 ≡ n / 100 = omega arith in
    rw (append_assoc, tens, ones, front) refl

pub two_digits-below : (n : ℕ) → n < 100 → two_digits n ≡ (48 + n / 10) ∷ (48 + n % 10) ∷ []
unfolding two_digits
two_digits-below n below = let tens : n / 10 % 10 ≡ n / 10 = omega arith in rw tens refl

-- digits are ASCII bytes
pub two_digits-ascii : (n : ℕ) → n < 100 → IsAscii (two_digits n)
two_digits-ascii n below = rw (two_digits-below n below) (IsAscii-cons (48 + n / 10) ((48 + n % 10) ∷ [])
    (omega (arith, below)) (IsAscii-cons (48 + n % 10) [] (omega arith) IsAscii-nil))

pub nine_digits-pairs : (n : ℕ) → n < 1000000000 → nine_digits n ≡
    (48 + n / 10000 / 10000) ∷ two_digits (n / 10000 % 10000 / 100)
    ++ (two_digits (n / 10000 % 100) ++ (two_digits (n % 10000 / 100) ++ two_digits (n % 10000 % 100)))
unfolding nine_digits two_digits
nine_digits-pairs n below =
    let fourth : n / 100 % 100 ≡ n % 10000 / 100 = omega arith in
    let fifth : n % 100 ≡ n % 10000 % 100 = omega arith in
    let third : n / 100 / 100 % 100 ≡ n / 10000 % 100 = omega arith in
    let second : n / 100 / 100 / 100 % 100 ≡ n / 10000 % 10000 / 100 = omega arith in
    let first : n / 100 / 100 / 100 / 100 % 10 ≡ n / 10000 / 10000 = omega arith in
    last_two_digits 7 n
    ∙ ap (λ xs. xs ++ two_digits (n % 100)) (last_two_digits 5 (n / 100)
    ∙ ap (λ xs. xs ++ two_digits (n / 100 % 100)) (last_two_digits 3 (n / 100 / 100)
    ∙ ap (λ xs. xs ++ two_digits (n / 100 / 100 % 100)) (last_two_digits 1 (n / 100 / 100 / 100))))
    ∙ rw (fourth, fifth, third, second, first) (simp append_assoc)

pub nine_digits-ascii : (n : ℕ) → n < 1000000000 → IsAscii (nine_digits n)
nine_digits-ascii n below =
    rw (nine_digits-pairs n below)
    (IsAscii-cons (48 + n / 10000 / 10000) _ (omega (arith, below))
    (IsAscii-append _ _ (two_digits-ascii (n / 10000 % 10000 / 100) (omega arith))
    (IsAscii-append _ _ (two_digits-ascii (n / 10000 % 100) (omega arith))
    (IsAscii-append _ _ (two_digits-ascii (n % 10000 / 100) (omega arith))
    (two_digits-ascii (n % 10000 % 100) (omega arith))))))

-- what stands between a year and nanoseconds, byte by byte
pub middle_text-bytes : (f : Fields) → f.month < 100 → f.month_day < 100 → f.hour < 100 → f.minute < 100
    → f.second < 100 →
    middle_text f ≡ 45 ∷ (48 + f.month / 10) ∷ (48 + f.month % 10) ∷ 45 ∷ (48 + f.month_day / 10)
    ∷ (48 + f.month_day % 10)
    ∷ 84 ∷ (48 + f.hour / 10) ∷ (48 + f.hour % 10) ∷ 58 ∷ (48 + f.minute / 10) ∷ (48 + f.minute % 10) ∷ 58
    ∷ (48 + f.second / 10) ∷ (48 + f.second % 10) ∷ 46 ∷ []
unfolding middle_text
middle_text-bytes f month day hour minute second =
    rw (
      two_digits-below f.month month,
      two_digits-below f.month_day day,
      two_digits-below f.hour hour,
      two_digits-below
          f.minute minute,
      two_digits-below f.second second,
    ) refl

pub middle_text-ascii : (f : Fields) → f.month < 100 → f.month_day < 100 → f.hour < 100 → f.minute < 100
    → f.second < 100 → IsAscii (middle_text f)
unfolding middle_text
middle_text-ascii f month day hour minute second =
    IsAscii-cons 45 _ (omega arith) (IsAscii-append _ _ (two_digits-ascii f.month month)
    (IsAscii-cons 45 _ (omega arith) (IsAscii-append _ _ (two_digits-ascii f.month_day day)
    (IsAscii-cons 84 _ (omega arith) (IsAscii-append _ _ (two_digits-ascii f.hour hour)
    (IsAscii-cons 58 _ (omega arith) (IsAscii-append _ _ (two_digits-ascii f.minute minute)
    (IsAscii-cons 58 _ (omega arith) (IsAscii-append _ _ (two_digits-ascii f.second second)
    (IsAscii-cons 46 [] (omega arith) IsAscii-nil))))))))))

-- the parts of a printed date time
pub printed_parts : (f : Fields) (offset : ℤ)
    → printed_text f offset ≡ signed_decimal f.year
    ++ (middle_text f ++ (nine_digits f.nanoseconds ++ offset_text offset))
unfolding printed_text date_text time_text middle_text two_digits
printed_parts f offset = append_assoc (signed_decimal f.year) (45 ∷ two_digits f.month ++ (45 ∷ two_digits f.month_day))
    (84 ∷ time_text f ++ offset_text offset)

-- a number of several digits is written two at a time
pub decimal-pairs : (n : ℕ) → 100 ≤ n → n < 2 ^ 64 → decimal n ≡ decimal (n / 100) ++ two_digits (n % 100)
decimal-pairs n from below =
    let tens : n / 10 % 10 ≡ n % 100 / 10 = omega arith in
    let ones : n % 10 ≡ n % 100 % 10 = omega arith in
    let front : n / 10 / 10 ≡ n / 100 = omega arith in
    decimal_step n (omega arith) below
    ∙ ap (λ xs. xs ++ (48 + n % 10) ∷ []) (decimal_step (n / 10) (omega arith) (omega arith))
    ∙ rw (append_assoc, two_digits-below (n % 100) (omega arith), tens, ones, front) refl

-- two digits that begin with no zero
pub decimal-two_digits : (n : ℕ) → 10 ≤ n → n < 100 → decimal n ≡ two_digits n
decimal-two_digits n from below =
    decimal_step n from (omega arith) ∙ ap (λ xs. xs ++ (48 + n % 10) ∷ []) (decimal_digit (n / 10) (omega arith))
    ∙ sym (two_digits-below n below)

-- this many digits the parts have
pub length-two_digits : (n : ℕ) → length (two_digits n) ≡ 2
unfolding two_digits
length-two_digits n = refl

pub length_one_digit : (n : ℕ) → n < 10 → length (decimal n) ≡ 1
length_one_digit n below = ap length (decimal_digit n below)

pub length_two_digits : (n : ℕ) → 10 ≤ n → n < 100 → length (decimal n) ≡ 2
length_two_digits n from below = ap length (decimal-two_digits n from below) ∙ length-two_digits n

pub length_pairs : (n : ℕ) → 100 ≤ n → n < 2 ^ 64 → length (decimal n) ≡ length (decimal (n / 100)) + 2
length_pairs n from below = ap length (decimal-pairs n from below) ∙ length-append (decimal (n / 100))
    (two_digits (n % 100)) ∙ ap (λ k. length (decimal (n / 100)) + k) (length-two_digits (n % 100))

pub ruleset length_of_digits = (length_one_digit, length_two_digits, length_pairs)

pub ten_digits : (n : ℕ) → n < 2 ^ 32 → length (decimal n) ≤ 10
ten_digits n below = length-decimal-le 10 n (omega arith) (omega arith) (omega arith)

pub twenty_digits : (n : ℕ) → n < 2 ^ 64 → length (decimal n) ≤ 20
twenty_digits n below = length-decimal-le 20 n (omega arith) (omega arith) (omega arith)

-- an offset is printed by its sign
pub offset_text-negative : (z : ℤ) → z <ℤ pos 0 → offset_text z ≡ 45 ∷ duration_text (unsigned_abs z)
unfolding offset_text
offset_text-negative (pos n) below = absurd (omega (arith, ints))
offset_text-negative (negsuc n) below = refl

pub offset_text-positive : (z : ℤ) → pos 0 <ℤ z → offset_text z ≡ 43 ∷ duration_text (unsigned_abs z)
unfolding offset_text
offset_text-positive (pos zero) above = absurd (omega (arith, ints))
offset_text-positive (pos (suc n)) above = refl
offset_text-positive (negsuc n) above = absurd (omega (arith, ints))

-- a number of four digits
pub decimal-four : (n : ℕ) → 1000 ≤ n → n < 10000
    → decimal n ≡ (48 + n / 100 / 10) ∷ (48 + n / 100 % 10) ∷ (48 + n % 100 / 10) ∷ (48 + n % 100 % 10) ∷ []
decimal-four n from below =
    decimal-pairs n (omega arith) (omega arith)
    ∙ rw (
      decimal-two_digits (n / 100) (omega arith) (omega arith),
      two_digits-below (n / 100) (omega arith),
      two_digits-below
          (n % 100) (omega arith),
    ) refl

-- a duration of fewer than 100 hours that has no seconds over
pub two_digits_or_more-below : (n : ℕ) → n < 100 → two_digits_or_more n ≡ two_digits n
unfolding two_digits_or_more
two_digits_or_more-below n below = grind (arith, nat_tests)

pub duration_text-short : (s : ℕ) → s / 3600 < 100 → s % 60 ≡ 0
    → duration_text s ≡ two_digits (s / 3600) ++ (58 ∷ two_digits ((s / 60) % 60))
unfolding duration_text
duration_text-short s few none =
    rw (two_digits_or_more-below (s / 3600) few, none, append-nil (58 ∷ two_digits ((s / 60) % 60))) refl
