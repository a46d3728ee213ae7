-- Digits that are read eight at once, and nine digits that are copied.
use Rattle.tz_query.proofs.Common.{sym, subst, refl, arith, ◌≡◌, [], ap, ◌∷◌, ◌∙◌, ◌++◌, length, ℕ, inl, List, inr, ◌+◌, ◌<◌, take, drop, pos, get_or, ◌≤◌, IsPartFront, nine_digits, digits_value, take_all, EndsDigits, IsNumberFront, length-take-le, suc, zero, ◌*◌, ◌-◌, ◌^◌, AllDigits, Bool, cond, digits_len, drop_more, false, neg_ℤ, replicate, slice_range, ◌%◌, IsDigits, digit_value, is_digit, last_digits, nat_tests, set, take-append-drop, take_more, true, ◌/◌, cases_lt, digit_range, drop-drop, drop-take, is_ascii_digit, length-drop, length-prefix_len, prefix_len-le-length, take-take}
use Rattle.std.proofs.lemmas.Int.Digits.{digits_value-lt, digits_value_push}
use Rattle.std.proofs.lemmas.Str.Parse.{digit_at}
use Rattle.std.proofs.Math.Nat.{pow-le-pow_right}
use mathlib.Core.Bool.{true≢false}
use Rattle.tz_query.proofs.NumberFronts.{plain_number, minus_number}

-- a digit by its value, and by its byte
value_of_digit : (b : ℕ) → is_ascii_digit b ≡ true → (digit_value b < 10) × (b ≡ 48 + digit_value b)
value_of_digit b is =
    let range = digit_range b is in
    let value = (is_digit b range.0 range.1).1 in
    (omega (arith, range, value), omega (arith, range, value))

pub digit_of_value : (b : ℕ) → digit_value b < 10 → (48 ≤ b) × (b ≤ 57)
digit_of_value b is = (grind (arith, nat_tests), grind (arith, nat_tests))

-- this many digits are first, and no more
first_digits : (bs : List ℕ) → AllDigits 10 (take (digits_len bs) bs) × EndsDigits (drop (digits_len bs) bs)
first_digits [] = (tt, tt)
first_digits (b ∷ bs) = go (is_ascii_digit b) refl (first_digits bs)
  where
    go : (d : Bool) → is_ascii_digit b ≡ d → AllDigits 10 (take (digits_len bs) bs)
        × EndsDigits (drop (digits_len bs) bs) →
        AllDigits 10 (take (cond d (1 + digits_len bs) 0) (b ∷ bs))
        × EndsDigits (drop (cond d (1 + digits_len bs) 0) (b ∷ bs))
    go true is (all, ends) = let next : 1 + digits_len bs ≡ suc (digits_len bs) = omega arith in
        rw next (((value_of_digit b is).0, all), ends)
    go false is more = (
      tt,
      λ digit. let range = digit_of_value b digit in true≢false (sym (is_digit b range.0 range.1).0 ∙ is),
    )

digits_front_is : (bs : List ℕ) (n : ℕ) → n ≡ digits_len bs → IsDigits bs (take n bs) (drop n bs)
digits_front_is bs n is =
    record {
      whole = sym (take-append-drop n bs);
      all_digits = rw is (first_digits bs).0;
      ends = rw is (first_digits bs).1;
    }

-- the digits from a position on to where they end
module _ (bs : List ℕ) (position end : ℕ) (within : position ≤ length bs)
    (end_is : end ≡ position + digits_len (drop position bs)) where
  count_is : end - position ≡ digits_len (drop position bs)
  count_is = omega (arith, end_is)

  pub front_at : IsDigits (drop position bs) (slice_range bs position end) (drop end bs)
  front_at =
      subst (λ r. IsDigits (drop position bs) (slice_range bs position end) r) (drop-drop (end - position) position bs
      ∙ ap (λ n. drop n bs) (omega (arith, end_is))) (digits_front_is (drop position bs) (end - position) count_is)

  pub length_at : length (slice_range bs position end) ≡ end - position
  length_at = ap (λ n. length (take n (drop position bs))) count_is ∙ length-prefix_len is_ascii_digit
      (drop position bs) ∙ sym count_is

  -- up to 18 of them nothing wraps
  value_at : (value : ℕ) → end ≤ position + 18
      → value ≡ (0 * 10 ^ (end - position) + digits_value 10 (slice_range bs position end)) % 2 ^ 64 →
      (value ≡ digits_value 10 (slice_range bs position end)) × (value < 1000000000000000000)
  value_at value few is =
      let power : 10 ^ length (slice_range bs position end) ≤ 10 ^ 18 =
      pow-le-pow_right (omega arith) {i = length (slice_range bs position end)} {j =
      18} (omega (arith, length_at, few)) in
      let small : digits_value 10 (slice_range bs position end) < 1000000000000000000 =
      omega (arith, digits_value-lt 10 (slice_range bs position end) front_at.all_digits, power) in
      let same : value ≡ digits_value 10 (slice_range bs position end) = omega (arith, is, small) in
      (same, omega (arith, same, small))

  -- so they are a number
  pub number_at : (value : ℕ) → position < end → end ≤ position + 18
      → value ≡ (0 * 10 ^ (end - position) + digits_value 10 (slice_range bs position end)) % 2 ^ 64 →
      ((digits : List ℕ) × IsDigits (drop position bs) digits (drop end bs) × (0 < length digits)
      × (value ≡ digits_value 10 digits)) × (value < 1000000000000000000)
  number_at value some few is =
      let (same, below) = value_at value few is in
      ((slice_range bs position end, front_at, omega (arith, length_at, some), same), below)

-- the digits at the front of some bytes are those before all, where they end among them
digits_of_window : (xs : List ℕ) (n k : ℕ) → k ≡ digits_len (take n xs) → k < n → k ≡ digits_len xs
digits_of_window xs zero k is few = absurd (omega (arith, few))
digits_of_window [] (suc n) k is few = is
digits_of_window (b ∷ bs) (suc n) k is few = go (is_ascii_digit b) is (λ j. digits_of_window bs n j)
  where
    go : (d : Bool) → k ≡ cond d (1 + digits_len (take n bs)) 0
        → ((j : ℕ) → j ≡ digits_len (take n bs) → j < n → j ≡ digits_len bs) → k ≡ cond d (1 + digits_len bs) 0
    go true is more = let rest = more (k - 1) (omega (arith, is)) (omega (arith, is, few)) in omega (arith, is, rest)
    go false is more = is

-- and otherwise those that follow are more
digits_past_window : (xs : List ℕ) (n : ℕ) → n ≡ digits_len (take n xs) → digits_len xs ≡ n + digits_len (drop n xs)
digits_past_window xs zero is = omega arith
digits_past_window [] (suc n) is = absurd (omega (arith, is))
digits_past_window (b ∷ bs) (suc n) is = go (is_ascii_digit b) is (digits_past_window bs n)
  where
    go : (d : Bool) → suc n ≡ cond d (1 + digits_len (take n bs)) 0
        → (n ≡ digits_len (take n bs) → digits_len bs ≡ n + digits_len (drop n bs)) →
        cond d (1 + digits_len bs) 0 ≡ suc n + digits_len (drop n bs)
    go true is more = omega (arith, is, more (omega (arith, is)))
    go false is more = absurd (omega (arith, is))

-- the digits of this many bytes from a position on
module _ (bs : List ℕ) (position n k : ℕ) (is : k ≡ 0 + digits_len (drop 0 (slice_range bs position (position + n))))
  where
    window : slice_range bs position (position + n) ≡ take n (drop position bs)
    window = ap (λ m. take m (drop position bs)) (omega arith)

    in_window : k ≡ digits_len (take n (drop position bs))
    in_window = omega (arith, is, ap digits_len window)

    pub few_in_window : position + n ≤ length bs → k ≤ n
    few_in_window within =
        omega (
          arith,
          in_window,
          length-take-le n (drop position bs)
              (omega (arith, within, length-drop position bs)),
          prefix_len-le-length is_ascii_digit
              (take n (drop position bs)),
        )

    -- they end before a byte that is no digit
    pub end_before : (b : ℕ) → position + n ≤ length bs → is_ascii_digit b ≡ false
        → drop (position + k) bs ≡ b ∷ drop (position + k + 1) bs
        → position + k ≡ position + digits_len (drop position bs)
    end_before b within other next = elim (cases_lt k n) [
      | inl less ↦ ap (λ m. position + m) (digits_of_window (drop position bs) n k in_window less)
      | inr more ↦
          let full : k ≡ n = omega (arith, few_in_window within, more) in
          let rest : drop n (drop position bs) ≡ drop (position + k) bs =
          drop-drop n position bs ∙ ap (λ m. drop m bs) (omega (arith, full)) in
          let none : digits_len (drop n (drop position bs)) ≡ 0 =
          ap digits_len (rest ∙ next) ∙ ap (λ d. cond d (1 + digits_len (drop (position + k + 1) bs)) 0) other in
          omega (arith, full, digits_past_window (drop position bs) n (omega (arith, full, in_window)), none)
    ]

    -- their value
    pub value_in_window : k ≤ n → (value : ℕ)
        → value ≡ (0 * 10 ^ (k - 0) + digits_value 10 (slice_range (slice_range bs position (position + n)) 0 k)) % 2 ^
        64
        →
        value ≡ (0 * 10 ^ (position + k - position) + digits_value 10 (slice_range bs position (position + k))) % 2 ^ 64
    value_in_window within value value_is =
        let digits : slice_range (slice_range bs position (position + n)) 0 k ≡ slice_range bs position (position + k) =
        ap (λ m. take m (slice_range bs position (position + n))) (omega arith) ∙ ap (take k) window
        ∙ take-take k n (drop position bs) within ∙ ap (λ m. take m (drop position bs)) (omega arith) in
        omega (arith, value_is, ap (digits_value 10) digits)

-- the last digits of the value of digits are these digits
digits_in_front : (ds : List ℕ) (i : ℕ) → AllDigits 10 ds → AllDigits 10 (take i ds)
digits_in_front ds zero all = tt
digits_in_front [] (suc i) all = tt
digits_in_front (d ∷ ds) (suc i) all = (all.0, digits_in_front ds i all.1)

last_digits_are : (width : ℕ) (ds : List ℕ) → length ds ≡ width → AllDigits 10 ds
    → last_digits width (digits_value 10 ds) ≡ ds
last_digits_are zero [] long all = refl
last_digits_are zero (d ∷ ds) long all = absurd (omega (arith, long))
last_digits_are (suc width) ds long all =
    let front = take width ds in
    let last = get_or ds width 0 in
    let next : suc width ≡ width + 1 = omega arith in
    let whole : take (width + 1) ds ≡ ds = take_all (width + 1) ds (omega (arith, long)) in
    let split : ds ≡ front ++ last ∷ [] = sym whole ∙ take_more ds width 0 (omega (arith, long)) in
    let value : digits_value 10 ds ≡ digits_value 10 front * 10 + digit_value last =
    ap (digits_value 10) split ∙ digits_value_push 10 front last in
    let digit = digit_at ds width all (omega (arith, long)) in
    let byte = (is_digit last digit.0 digit.1).1 in
    let tens : digits_value 10 ds / 10 ≡ digits_value 10 front = omega (arith, value, digit, byte) in
    let ones : 48 + digits_value 10 ds % 10 ≡ last = omega (arith, value, digit, byte) in
    let before = last_digits_are width front (length-take-le width ds (omega (arith, long)))
    (digits_in_front ds width all) in
    rw (tens, ones, before) (sym split)

-- leading zeros change no value
zeros_in_front : (k : ℕ) (ds : List ℕ) → digits_value 10 (replicate k 48 ++ ds) ≡ digits_value 10 ds
zeros_in_front zero ds = refl
zeros_in_front (suc k) ds = zeros_in_front k ds

zeros_are_digits : (k : ℕ) (ds : List ℕ) → AllDigits 10 ds → AllDigits 10 (replicate k 48 ++ ds)
zeros_are_digits zero ds all = all
zeros_are_digits (suc k) ds all = (omega arith, zeros_are_digits k ds all)

length_with_zeros : (k : ℕ) (ds : List ℕ) → length (replicate k 48 ++ ds) ≡ k + length ds
length_with_zeros zero ds = omega arith
length_with_zeros (suc k) ds = omega (arith, length_with_zeros k ds)

-- nine digits, with leading zeros, are those of their value
pub nine_digits_are : (k : ℕ) (ds : List ℕ) → k + length ds ≡ 9 → AllDigits 10 ds
    → (replicate k 48 ++ ds ≡ nine_digits (digits_value 10 ds)) × (digits_value 10 ds < 1000000000)
unfolding nine_digits
nine_digits_are k ds long all =
    let padded = last_digits_are 9 (replicate k 48 ++ ds) (length_with_zeros k ds ∙ long) (zeros_are_digits k ds all) in
    let power : 10 ^ length ds ≤ 10 ^ 9 = pow-le-pow_right (omega arith) {i = length ds} {j =
    9} (omega (arith, long)) in
    (sym padded ∙ ap (last_digits 9) (zeros_in_front k ds), omega (arith, digits_value-lt 10 ds all, power))

-- numbers after a space
module _ (bytes digits rest : List ℕ) (front : IsDigits bytes digits rest) (some : 0 < length digits)
    (all : List ℕ) where
  pub plain_part : all ≡ 32 ∷ bytes → IsPartFront all (pos (digits_value 10 digits)) rest
  plain_part space = (bytes, space, plain_number bytes digits rest front some)

  pub minus_part : all ≡ 32 ∷ 45 ∷ bytes → IsPartFront all (neg_ℤ (pos (digits_value 10 digits))) rest
  minus_part space = (45 ∷ bytes, space, minus_number (45 ∷ bytes) bytes digits rest refl front some)

-- a byte at a position, and what follows it
pub byte_at : (bs : List ℕ) (position b : ℕ) → position < length bs → get_or bs position 0 ≡ b
    → drop position bs ≡ b ∷ drop (position + 1) bs
byte_at bs position b within is = drop_more bs position 0 within ∙ ap (λ x. x ∷ drop (position + 1) bs) is

-- one more leading zero
pub one_more_zero : (bs : List ℕ) (i : ℕ) → i < length bs
    → set (replicate i 48 ++ drop i bs) i 48 ≡ replicate (i + 1) 48 ++ drop (i + 1) bs
one_more_zero [] i within = absurd (omega (arith, within))
one_more_zero (b ∷ bs) zero within = refl
one_more_zero (b ∷ bs) (suc i) within = let next : suc i + 1 ≡ suc (i + 1) = omega arith in
    rw next (ap (λ xs. 48 ∷ xs) (one_more_zero bs i (omega (arith, within))))

-- of the nine bytes before the end the last ones are the digits
pub digits_of_nine : (bs : List ℕ) (start end k : ℕ) → start ≤ end → 9 ≤ end → end ≤ start + 9 → k ≡ 9 - (end - start)
    → drop k (slice_range bs (end - 9) end) ≡ slice_range bs start end
digits_of_nine bs start end k after nine few is =
    ap (λ n. drop k (take n (drop (end - 9) bs))) (omega (arith, after, nine, few, is))
    ∙ drop-take k (end - start) (drop (end - 9) bs)
    ∙ ap (λ xs. take (end - start) xs) (drop-drop k (end - 9) bs
    ∙ ap (λ n. drop n bs) (omega (arith, after, nine, few, is)))

-- digits before a space are the number there
pub front_before_space : (ds bs rest more : List ℕ) → AllDigits 10 ds → 0 < length ds → bs ≡ ds ++ rest
    → rest ≡ 32 ∷ more → (n : ℕ) → n ≡ digits_value 10 ds → IsNumberFront bs (pos n) rest
front_before_space ds bs rest more all some whole space n is =
    record {
      text = ds;
      whole = whole;
      is_number = (ds, (some, all), inl (refl, ap pos is));
      ends = subst EndsDigits (sym space) (λ digit. absurd (omega (arith, digit)));
    }
