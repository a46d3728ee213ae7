-- The table of pairs has the tens and the ones of each number.
use Rattle.std.proofs.Common.{arith, refl, ◌≡◌, ◌∙◌, inr, inl, [], ap, ℕ, ◌∷◌, ◌<◌, List, length, ◌+◌, ◌≤◌, suc, zero, ◌*◌, ◌-◌, ◌%◌, ◌/◌, get_or, true, Bool, drop, take, T, eq-zero-or-pos, eqb, eqb→eq, ◌&&◌}
use lib.Ieee.Fits.{and_l, and_r}
use Rattle.tz_base.specs.declared.text_buffer.TheConstants.{PAIRS}

abbrev is_pair : ℕ → Bool
is_pair n = eqb (get_or PAIRS (n * 2) 0) (48 + n / 10) && eqb (get_or PAIRS (n * 2 + 1) 0) (48 + n % 10)

abbrev are_pairs : ℕ → Bool
are_pairs zero = true
are_pairs (suc n) = is_pair n && are_pairs n

pairs_below : (count n : ℕ) → T (are_pairs count) → n < count → (get_or PAIRS (n * 2) 0 ≡ 48 + n / 10)
    × (get_or PAIRS (n * 2 + 1) 0 ≡ 48 + n % 10)
pairs_below zero n all below = absurd (omega arith)
pairs_below (suc count) n all below =
    elim (eq-zero-or-pos (count - n)) [
      | inl last ↦ let same : n ≡ count = omega arith in let this = and_l (is_pair count) (are_pairs count) all in
          rw same (eqb→eq _ _ (and_l _ _ this), eqb→eq _ _ (and_r _ _ this))
      | inr before ↦ pairs_below count n (and_r (is_pair count) (are_pairs count) all) (omega arith)
    ]

pair_at : (n : ℕ) → n < 100 → (get_or PAIRS (n * 2) 0 ≡ 48 + n / 10) × (get_or PAIRS (n * 2 + 1) 0 ≡ 48 + n % 10)
pair_at n below = pairs_below 100 n tt below

-- two items of a list in their order
two_items : (items : List ℕ) (position : ℕ) → position + 2 ≤ length items
    → take 2 (drop position items) ≡ get_or items position 0 ∷ get_or items (suc position) 0 ∷ []
two_items [] position within = absurd (omega (arith, within))
two_items (x ∷ []) zero within = absurd (omega (arith, within))
two_items (x ∷ y ∷ items) zero within = refl
two_items (x ∷ items) (suc position) within = two_items items position (omega (arith, within))

-- so the two bytes at a number's position are its digits
pub pair_is : (n : ℕ) → n < 100 → take 2 (drop (n * 2) PAIRS) ≡ (48 + n / 10) ∷ (48 + n % 10) ∷ []
pair_is n below =
    let at = pair_at n below in
    let next : suc (n * 2) ≡ n * 2 + 1 = omega arith in
    let within : n * 2 + 2 ≤ length PAIRS = omega (arith, below) in
    two_items PAIRS (n * 2) within
    ∙ ap (λ digit. digit ∷ get_or PAIRS (suc (n * 2)) 0 ∷ []) at.0
    ∙ ap (λ position. (48 + n / 10) ∷ get_or PAIRS position 0 ∷ []) next
    ∙ ap (λ digit. (48 + n / 10) ∷ digit ∷ []) at.1
