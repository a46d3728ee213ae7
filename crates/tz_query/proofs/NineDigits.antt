-- The nine digits of a number below 10^9 are nine bytes that are all digits, and have its value.
use Rattle.tz_query.proofs.Common.{sym, subst, refl, arith, ◌≡◌, [], ap, ◌∷◌, ◌∙◌, length, ℕ, List, ◌+◌, ◌<◌, take, drop, nine_digits, digits_value, take_all, ◌*◌, ◌-◌, ◌^◌, AllDigits, cond, digits_len, slice_range, ◌%◌, is_digit}
use Rattle.tz_query.proofs.FastNumbers.{digit_of_value}
use Rattle.tz.proofs.LastDigits.{last_digits_all, last_digits_length, last_digits_value}

all_are_digits : (ds : List ℕ) → AllDigits 10 ds → digits_len ds ≡ length ds
all_are_digits [] all = refl
all_are_digits (d ∷ ds) all =
    let range = digit_of_value d all.0 in
    ap (λ b. cond b (1 + digits_len ds) 0) (is_digit d range.0 range.1).0 ∙ omega (arith, all_are_digits ds all.1)

-- the number that nine digits are read as
pub value_of_nine : (n : ℕ) → n < 1000000000 → (nine : List ℕ) → nine ≡ nine_digits n → (end value : ℕ)
    → end ≡ 0 + digits_len (drop 0 nine) →
    value ≡ (0 * 10 ^ (end - 0) + digits_value 10 (slice_range nine 0 end)) % 2 ^ 64 → value ≡ n
unfolding nine_digits
value_of_nine n few nine is end value end_is value_is =
    let long : length nine ≡ 9 = ap length is ∙ last_digits_length 9 n in
    let all : AllDigits 10 nine = subst (AllDigits 10) (sym is) (last_digits_all 9 n) in
    let nine_is : end ≡ 9 = omega (arith, end_is, all_are_digits nine all, long) in
    let size : end - 0 ≡ 9 = omega (arith, nine_is) in
    let whole : slice_range nine 0 end ≡ nine = ap (λ k. take k nine) size ∙ take_all 9 nine (omega (arith, long)) in
    let number : digits_value 10 nine ≡ n = ap (digits_value 10) is ∙ last_digits_value 9 n few in
    omega (arith, value_is, ap (digits_value 10) whole, number, few)

-- nine digits have the value of the number that they are the digits of
pub value_of_nine_digits : (n : ℕ) → n < 1000000000 → (nine : List ℕ) → nine ≡ nine_digits n → digits_value 10 nine ≡ n
unfolding nine_digits
value_of_nine_digits n few nine is = ap (digits_value 10) is ∙ last_digits_value 9 n few

-- so they are the digits of their value, which is below 10^9
pub nine_of_their_value : (n : ℕ) → n < 1000000000 → (nine : List ℕ) → nine ≡ nine_digits n
    → (digits_value 10 nine < 1000000000) × (nine ≡ nine_digits (digits_value 10 nine))
nine_of_their_value n few nine is = let value = value_of_nine_digits n few nine is in
    (omega (arith, value, few), is ∙ ap nine_digits (sym value))
