-- Powers of two: the order of their exponents, and the half of one.
use Rattle.tz_zone.proofs.Common.{◌≡◌, arith, ℕ, refl, sym, inr, inl, ◌∙◌, ◌<◌, ap, ◌≤◌, ◌+◌, ◌≢◌, suc, zero, cases_lt, ◌^◌, pow_mono, ◌/◌}
use Rattle.std.proofs.Math.Nat.{pow-suc}

-- a power of two that is below another one has the smaller exponent
pub exponent_less : (m b n : ℕ) → 2 ^ m < n → n < 2 ^ b → m < b
exponent_less m b n low high = elim (cases_lt m b) [
  | inl less ↦ less
  | inr more ↦ absurd (omega (arith, low, high, pow_mono {i = b} {j = m} more))
]

-- the exponents of two powers of two have their order
pub exponent_up_to : (f m : ℕ) → 2 ^ f ≤ 2 ^ m → f ≤ m
exponent_up_to f m order = elim (cases_lt m f) [
  | inl less ↦ absurd (omega (
    arith,
    order,
    pow-suc 2 m,
    pow_mono {i = 0} {j = m} (omega arith),
    pow_mono {i = suc m} {j =
        f} (omega (arith, less)),
  ))
  | inr up_to ↦ up_to
]

-- half a power of two that is not another one up to it is one, and not less than that
pub half_power : (count least m f : ℕ) → count ≡ 2 ^ m → least ≡ 2 ^ f → count ≢ least → f ≤ m
    → (k : ℕ) × (m ≡ suc k) × (count / 2 ≡ 2 ^ k) × (count ≡ 2 ^ k + 2 ^ k) × (f ≤ k)
half_power count least zero f is least_is differ order = let none : 0 ≡ f = omega (arith, order) in
    absurd (differ (is ∙ ap (λ (n : ℕ). 2 ^ n) none ∙ sym least_is))
half_power count least (suc k) f is least_is differ order =
    (k, refl, omega (arith, is, pow-suc 2 k), omega (arith, is, pow-suc 2 k), within)
  where
    within : f ≤ k
    within = elim (cases_lt k f) [
      | inl less ↦ let same : suc k ≡ f = omega (arith, less, order) in
          absurd (differ (is ∙ ap (λ (n : ℕ). 2 ^ n) same ∙ sym least_is))
      | inr more ↦ more
    ]
