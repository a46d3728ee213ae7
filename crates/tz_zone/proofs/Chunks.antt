-- Transitions in a row, taken out of a list: what holds of a leap time's place among them holds in the list.
use Rattle.tz_zone.proofs.Common.{◌≡◌, arith, ℕ, ℤ, sym, inl, inr, ◌∙◌, ap, List, length, Some, ◌<◌, ◌+◌, ◌-◌, drop, slice_get, slice_get_within, slice_get-get_or, get_or, get_or-drop, length-take-le, length-drop, cases_lt, Transition, IsRising, IsAmongPositions}
use Rattle.std.proofs.lemmas.List.{get_or-take}
use Rattle.tz_zone.specs.Looks.{IsChunkAt}

module _ (list : List Transition) (index n : ℕ) (chunk : List Transition) (is : IsChunkAt list index n chunk) where
  pub length_is : length chunk ≡ n
  length_is =
      ap length is.1 ∙ length-take-le n (drop index list) (omega (arith, is.0, length-drop index list))

  pub same_at : (i : ℕ) → i < n → Transition → slice_get chunk i ≡ slice_get list (index + i)
  same_at i below other =
      slice_get-get_or chunk i other (omega (arith, below, length_is))
      ∙ ap Some (ap (λ xs. get_or xs i other) is.1 ∙ get_or-take n (drop index list) i other below
      ∙ get_or-drop index list i other)
      ∙ sym (slice_get-get_or list (index + i) other (omega (arith, below, is.0)))

  pub chunk_rises : IsRising list → IsRising chunk
  chunk_rises rising i change next at at_next =
      let inside = slice_get_within chunk (i + 1) next at_next in
      let below : i + 1 < n = omega (arith, inside, length_is) in
      rising (index + i) change next (sym (same_at i (omega arith) change) ∙ at)
      (ap (slice_get list) (omega arith) ∙ sym (same_at (i + 1) below change) ∙ at_next)

  module _ (l : ℤ) (some : 0 < n) (among : IsAmongPositions list l index n) where
    pub among_places : IsAmongPositions chunk l 0 n
    among_places = (
      omega (arith, length_is),
      λ i change none at. absurd (omega (arith, none)),
      λ i change from at.
          let inside = slice_get_within chunk i change at in
          among.2 (index + i) change (omega (arith, from, some))
          (sym (same_at i (omega (arith, inside, length_is)) change) ∙ at),
    )

    pub among_positions : (k : ℕ) → IsAmongPositions chunk l k 1 → IsAmongPositions list l (index + k) 1
    among_positions k (inside, reached, ahead) = (
      omega (arith, inside, length_is, is.0),
      λ i change less at.
          elim (cases_lt i index) [
            | inl before ↦ among.1 i change before at
            | inr here ↦
                reached (i - index) change (omega (arith, less, here))
                (same_at (i - index) (omega (arith, less, here, inside, length_is)) change
                ∙ ap (slice_get list) (omega (arith, here)) ∙ at)
          ],
      λ i change from at.
          elim (cases_lt i (index + n)) [
            | inl here ↦
                ahead (i - index) change (omega (arith, from, here))
                (same_at (i - index) (omega (arith, from, here)) change
                ∙ ap (slice_get list) (omega (arith, from)) ∙ at)
            | inr after ↦ among.2 i change (omega (arith, after)) at
          ],
    )
