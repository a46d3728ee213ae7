-- Two tables whose bounds over all kinds are apart never change their order.
use Rattle.tz_rule.proofs.Common.{arith, ints, pos, ◌+ℤ◌, ℤ, ◌≤ℤ◌, inl, inr, ◌<ℤ◌, List, ComesFirst, first_kind, ChangesOrder, second_kind, AreBounds, ComesAfterNext, lit<, ◌⊎◌}
use Rattle.tz_rule.proofs.PairTables.{first_kind-below, second_kind-below, first_days-least}

module _ (a b : List ℤ) (a_low a_high b_low b_high : ℤ) (in_a : AreBounds a a_low a_high)
    (in_b : AreBounds b b_low b_high) where
  pub never_first : b_high ≤ℤ a_low → ¬ ComesFirst a b
  never_first apart (kind, below, h) = omega (arith, ints, (in_a kind below).0, (in_b kind below).1, apart, h)

  pub comes_first : a_high <ℤ b_low → ComesFirst a b
  comes_first apart = (0, lit< tt, omega (arith, ints, (in_a 0 (lit< tt)).1, (in_b 0 (lit< tt)).0, apart))

  -- a year has at least 365 days
  never_after_next : a_high ≤ℤ (b_low +ℤ pos 31536000) → ¬ ComesAfterNext a b
  never_after_next near (pair, below, h) =
      omega (
        arith,
        ints,
        (in_a (first_kind pair) (first_kind-below pair below)).1,
        (in_b (second_kind pair)
            (second_kind-below pair below)).0,
        first_days-least pair,
        near,
        h,
      )

module _ (a b : List ℤ) (a_low a_high b_low b_high : ℤ) (in_a : AreBounds a a_low a_high)
    (in_b : AreBounds b b_low b_high) where
  pub no_order_changes : a_high ≤ℤ (b_low +ℤ pos 31536000) → b_high ≤ℤ (a_low +ℤ pos 31536000) → (¬ ComesFirst a b)
      ⊎ (¬ ComesFirst b a) → ¬ ChangesOrder a b
  no_order_changes after before (inl never) (inl (first, last)) = never first
  no_order_changes after before (inr never) (inl (first, last)) = never last
  no_order_changes after before one (inr (inl (before_next, after_next))) =
      never_after_next a b a_low a_high b_low b_high in_a in_b after after_next
  no_order_changes after before one (inr (inr (before_next, after_next))) =
      never_after_next b a b_low b_high a_low a_high in_b in_a before after_next
