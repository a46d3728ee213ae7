-- The last digits of a number are digits, as many as are asked for, and have its value.
use Rattle.tz.proofs.Common.{arith, refl, ◌≡◌, [], ℕ, ◌∷◌, ◌<◌, List, length, ◌+◌, ◌++◌, suc, zero, ◌%◌, ◌^◌, ◌/◌, digits_value, AllDigits, last_digits, pow-suc, digits_value_push}
use Rattle.std.proofs.lemmas.List.{length-append}
use Rattle.core.proofs.dec2flt.DigitsLemmas.{is_digit}

pub last_digits_all : (width n : ℕ) → AllDigits 10 (last_digits width n)
last_digits_all zero n = tt
last_digits_all (suc width) n = pushed (last_digits width (n / 10)) (last_digits_all width (n / 10))
  where
    pushed : (ds : List ℕ) → AllDigits 10 ds → AllDigits 10 (ds ++ (48 + n % 10) ∷ [])
    pushed [] all = (omega (arith, (is_digit (48 + n % 10) (omega arith) (omega arith)).1), tt)
    pushed (d ∷ ds) all = (all.0, pushed ds all.1)

pub last_digits_length : (width n : ℕ) → length (last_digits width n) ≡ width
last_digits_length zero n = refl
last_digits_length (suc width) n = omega (
  arith,
  length-append (last_digits width (n / 10)) ((48 + n % 10) ∷ []),
  last_digits_length width (n / 10),
)

pub last_digits_value : (width n : ℕ) → n < 10 ^ width → digits_value 10 (last_digits width n) ≡ n
last_digits_value zero n few = omega (arith, few)
last_digits_value (suc width) n few =
    let more = last_digits_value width (n / 10) (omega (arith, few, pow-suc 10 width)) in
    omega (
      arith,
      digits_value_push 10 (last_digits width (n / 10))
          (48 + n % 10),
      more,
      (is_digit (48 + n % 10) (omega arith) (omega arith)).1,
    )
