-- The number of January 1st is the closed form that the calendar computes.
use Rattle.std.proofs.Common.{◌≡◌, ℕ, zero, suc, ◌+◌, ◌*◌, ◌%◌, ◌≤◌, cond, eqb, refl, ap, arith, ℤ, pos, negsuc, ◌+ℤ◌, ◌-ℤ◌}
use Rattle.std.proofs.lemmas.Bool.Decides.{nat_tests}
use Rattle.std.proofs.lemmas.Int.{ints}
use mir.Syntax.{w32}
use mir.Val.{SFits}
use Rattle.tz_base.specs.Cycles.{days_of_years}
use Rattle.tz_base.specs.Days.{divides, is_leap, year_length, years_length_from_1970, years_length_before_1970, first_day_after, first_day}

same_test : (a b : ℕ) → (a ≡ 0 → b ≡ 0) → (b ≡ 0 → a ≡ 0) → eqb a 0 ≡ eqb b 0
same_test a b f g = grind (arith, nat_tests)

divides_400 : (year : ℤ) (n k : ℕ) → year +ℤ pos (400 * k) ≡ pos n → divides 400 year ≡ eqb (n % 400) 0
divides_400 (pos a) n k e = same_test (a % 400) (n % 400) (λ h. omega (arith, ints)) (λ h. omega (arith, ints))
divides_400 (negsuc a) n k e = same_test (suc a % 400) (n % 400) (λ h. omega (arith, ints)) (λ h. omega (arith, ints))

divides_100 : (year : ℤ) (n k : ℕ) → year +ℤ pos (400 * k) ≡ pos n → divides 100 year ≡ eqb (n % 100) 0
divides_100 (pos a) n k e = same_test (a % 100) (n % 100) (λ h. omega (arith, ints)) (λ h. omega (arith, ints))
divides_100 (negsuc a) n k e = same_test (suc a % 100) (n % 100) (λ h. omega (arith, ints)) (λ h. omega (arith, ints))

divides_4 : (year : ℤ) (n k : ℕ) → year +ℤ pos (400 * k) ≡ pos n → divides 4 year ≡ eqb (n % 4) 0
divides_4 (pos a) n k e = same_test (a % 4) (n % 4) (λ h. omega (arith, ints)) (λ h. omega (arith, ints))
divides_4 (negsuc a) n k e = same_test (suc a % 4) (n % 4) (λ h. omega (arith, ints)) (λ h. omega (arith, ints))

-- leap years repeat after 400 years
pub is_leap-moved : (year : ℤ) (n k : ℕ) → year +ℤ pos (400 * k) ≡ pos n → is_leap year ≡ is_leap (pos n)
unfolding is_leap
is_leap-moved year n k e = rw (divides_400 year n k e, divides_100 year n k e, divides_4 year n k e) refl

pub year_length-moved : (year : ℤ) (n k : ℕ) → year +ℤ pos (400 * k) ≡ pos n → year_length year ≡ year_length (pos n)
unfolding year_length
year_length-moved year n k e = ap (λ leap. cond leap 366 365) (is_leap-moved year n k e)

-- one more year adds its length
pub days_of_years-suc : (n : ℕ) → days_of_years n + year_length (pos n) ≡ days_of_years (n + 1)
unfolding days_of_years year_length is_leap
days_of_years-suc n = grind (arith, nat_tests)

days_of_years-1970 : (k : ℕ) → days_of_years (1970 + 400 * k) ≡ 719528 + 146097 * k
unfolding days_of_years
days_of_years-1970 k = omega arith

from_1970 : (m k : ℕ) → days_of_years (1970 + 400 * k) + years_length_from_1970 m ≡ days_of_years (1970 + m + 400 * k)
unfolding years_length_from_1970
from_1970 zero k = omega arith
from_1970 (suc m) k =
    let length = year_length-moved (pos 1970 +ℤ pos m) (1970 + m + 400 * k) k refl in
    let next : 1970 + m + 400 * k + 1 ≡ 1970 + suc m + 400 * k = omega arith in
    omega (arith, from_1970 m k, days_of_years-suc (1970 + m + 400 * k), ap days_of_years next)

before_1970 : (m k n : ℕ) → n + m ≡ 1970 + 400 * k
    → days_of_years n + years_length_before_1970 m ≡ days_of_years (1970 + 400 * k)
unfolding years_length_before_1970
before_1970 zero k n e =
    let same : n ≡ 1970 + 400 * k = omega arith in
    omega (arith, ap days_of_years same)
before_1970 (suc m) k n e =
    let length = year_length-moved (pos 1969 -ℤ pos m) n k (omega (arith, ints)) in
    omega (arith, before_1970 m k (n + 1) (omega arith), days_of_years-suc n)

-- the number of January 1st: n is the year, moved by cycles of 400 years
pub first_day-moved : (year : ℤ) (n k : ℕ) → year +ℤ pos (400 * k) ≡ pos n
    → first_day year +ℤ pos (719528 + 146097 * k) ≡ pos (days_of_years n)
unfolding first_day
first_day-moved year n k e = by_years (year -ℤ pos 1970) n k (omega (arith, ints))
  where
    by_years : (years : ℤ) (n k : ℕ) → years +ℤ pos (1970 + 400 * k) ≡ pos n
        → first_day_after years +ℤ pos (719528 + 146097 * k) ≡ pos (days_of_years n)
    by_years (pos m) n k e =
        let same : 1970 + m + 400 * k ≡ n = omega (arith, ints) in
        omega (arith, ints, from_1970 m k, days_of_years-1970 k, ap days_of_years same)
    by_years (negsuc m) n k e =
        omega (arith, ints, before_1970 (suc m) k n (omega (arith, ints)), days_of_years-1970 k)

pub days_of_years_last : (n : ℕ) → n ≤ 4294967648 → days_of_years n ≤ 1568704721175
unfolding days_of_years
days_of_years_last n h = omega arith

-- the years of 32 bits, and their first days
pub days_of_years_bounds : (year : ℤ) (n : ℕ) → SFits w32 year → pos n ≡ year +ℤ pos 2147484000
    → (352 ≤ n) × (n ≤ 4294967647) × (128565 ≤ days_of_years n) × (days_of_years n ≤ 1568704720810)
unfolding days_of_years
days_of_years_bounds year n fits e = (
  omega (arith, ints, fits.sfits),
  omega (arith, ints, fits.sfits),
  omega (arith, ints, fits.sfits),
  omega (arith, ints, fits.sfits),
)
