-- Digits, some at a time.
use Rattle.std.proofs.Common.{arith, refl, ◌≡◌, ◌∙◌, ℕ, ◌∷◌, ◌<◌, ◌≤◌, length, ◌+◌, ◌++◌, suc, ◌%◌, ◌^◌, ◌/◌, append_assoc}
use Rattle.tz.specs.PrintedText.{last_digits, two_digits, nine_digits}
use Rattle.tz.proofs.PrintedDigits.{last_two_digits}
use Rattle.std.specs.Fmt.{decimal}
use Rattle.std.proofs.lemmas.Fmt.{length-decimal-le}
pub use Rattle.tz.proofs.PrintedDigits.{length_of_digits}

-- two digits after one
pub three_digits_are : (n : ℕ) → n < 1000 → last_digits 3 n ≡ (48 + n / 100) ∷ two_digits (n % 100)
three_digits_are n below =
    let first : n / 100 % 10 ≡ n / 100 = omega (arith, below) in
    last_two_digits 1 n ∙ rw first refl

-- the last three digits, and those before them
pub last_three_digits : (width n : ℕ) → last_digits (suc (suc (suc width))) n
    ≡ last_digits width (n / 1000) ++ last_digits 3 (n % 1000)
last_three_digits width n =
    let hundreds : n % 1000 / 10 / 10 % 10 ≡ n / 10 / 10 % 10 = omega arith in
    let tens : n % 1000 / 10 % 10 ≡ n / 10 % 10 = omega arith in
    let ones : n % 1000 % 10 ≡ n % 10 = omega arith in
    let front : n / 10 / 10 / 10 ≡ n / 1000 = omega arith in
    rw (append_assoc, append_assoc, hundreds, tens, ones, front) refl

pub nine_digits_are : (n : ℕ) → nine_digits n ≡ last_digits 6 (n / 1000) ++ last_digits 3 (n % 1000)
unfolding nine_digits
nine_digits_are n = last_three_digits 6 n

-- four digits are two and two
pub four_digits_are : (n : ℕ) → last_digits 4 n ≡ two_digits (n / 100 % 100) ++ two_digits (n % 100)
unfolding two_digits
four_digits_are n =
    let first : n / 100 % 100 / 10 % 10 ≡ n / 10 / 10 / 10 % 10 = omega arith in
    let second : n / 100 % 100 % 10 ≡ n / 10 / 10 % 10 = omega arith in
    let third : n % 100 / 10 % 10 ≡ n / 10 % 10 = omega arith in
    let fourth : n % 100 % 10 ≡ n % 10 = omega arith in
    rw (first, second, third, fourth) refl

-- how many digits a number has at most
pub digits_below_10_10 : (n : ℕ) → n < 10000000000 → length (decimal n) ≤ 10
digits_below_10_10 n below = length-decimal-le 10 n (omega arith) (omega (arith, below)) (omega (arith, below))

pub digits_below_10_6 : (n : ℕ) → n < 1000000 → length (decimal n) ≤ 6
digits_below_10_6 n below = length-decimal-le 6 n (omega arith) (omega (arith, below)) (omega (arith, below))

pub digits_below_10_17 : (n : ℕ) → n < 10 ^ 17 → length (decimal n) ≤ 17
digits_below_10_17 n below = length-decimal-le 17 n (omega arith) below (omega (arith, below))
