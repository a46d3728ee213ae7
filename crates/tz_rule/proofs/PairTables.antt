-- The tables of pair kinds have the kinds of both years, and each of the two years has a kind.
use Rattle.tz_rule.proofs.Common.{arith, ◌≡◌, ℕ, refl, ◌<◌, true, ◌≤◌, get_or, Decides-eqb, first_kind, nat_tests, all_below, eqb, passes_at, second_kind, first_days}
use Rattle.tz_rule.specs.declared.timezone.consistency.TheConstants.{FIRST_KINDS, SECOND_KINDS}

are_first_kinds : all_below (λ pair. eqb (get_or FIRST_KINDS pair 0) (first_kind pair)) 21 ≡ true
unfolding all_below first_kind
are_first_kinds = refl

are_second_kinds : all_below (λ pair. eqb (get_or SECOND_KINDS pair 0) (second_kind pair)) 21 ≡ true
unfolding all_below second_kind
are_second_kinds = refl

pub first_kind-at : (pair : ℕ) → pair < 21 → get_or FIRST_KINDS pair 0 ≡ first_kind pair
first_kind-at pair below = (Decides-eqb _ _).0 (passes_at (λ pair. eqb (get_or FIRST_KINDS pair 0) (first_kind pair)) 21
    pair are_first_kinds below)

pub second_kind-at : (pair : ℕ) → pair < 21 → get_or SECOND_KINDS pair 0 ≡ second_kind pair
second_kind-at pair below = (Decides-eqb _ _).0 (passes_at (λ pair. eqb (get_or SECOND_KINDS pair 0) (second_kind pair))
    21 pair are_second_kinds below)

pub first_kind-below : (pair : ℕ) → pair < 21 → first_kind pair < 14
unfolding first_kind
first_kind-below pair below = grind (arith, nat_tests)

pub second_kind-below : (pair : ℕ) → pair < 21 → second_kind pair < 14
unfolding second_kind
second_kind-below pair below = grind (arith, nat_tests)

pub first_days-least : (pair : ℕ) → 365 ≤ first_days pair
unfolding first_days
first_days-least pair = grind (arith, nat_tests)
