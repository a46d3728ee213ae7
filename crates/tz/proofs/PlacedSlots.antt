-- Slots filled by the entries of a list from a number on, and by one more at its end.
use Rattle.tz.proofs.Common.{arith, refl, ◌≡◌, ◌∙◌, inr, sym, inl, [], ap, ℕ, ◌∷◌, ◌<◌, List, length, ◌+◌, Some, ◌≤◌, ◌++◌, suc, zero, ◌-◌, ◌^◌, cases_lt, FoundDateTimeKind, length-append, map, placed, set}
use Rattle.std.specs.Prelude.{min, drop}
use Rattle.tz.specs.Buffers.{GrowsBy}
use Rattle.tz.specs.Slots.{Slots, filled}
use Rattle.tz.specs.declared.datetime.slots.SlotWriter.{SlotWriter}

module _ {S : Type 0} where
  pub placed_none : (slots : List S) → placed slots [] ≡ slots
  placed_none [] = refl
  placed_none (slot ∷ slots) = refl

  length-placed : (slots xs : List S) → length (placed slots xs) ≡ length slots
  length-placed [] xs = refl
  length-placed (slot ∷ slots) [] = refl
  length-placed (slot ∷ slots) (x ∷ xs) = ap suc (length-placed slots xs)

  -- the next one goes to the next slot
  placed_next : (slots xs : List S) (x : S) → length xs < length slots
      → placed slots (xs ++ x ∷ []) ≡ set (placed slots xs) (length xs) x
  placed_next [] xs x h = absurd (omega arith)
  placed_next (slot ∷ slots) [] x h = ap (λ rest. x ∷ rest) (placed_none slots)
  placed_next (slot ∷ slots) (first ∷ xs) x h = ap (λ rest. first ∷ rest) (placed_next slots xs x (omega arith))

  -- if there is none, the slots stay
  placed_full : (slots xs : List S) (x : S) → length slots ≤ length xs → placed slots (xs ++ x ∷ []) ≡ placed slots xs
  placed_full [] xs x h = refl
  placed_full (slot ∷ slots) [] x h = absurd (omega arith)
  placed_full (slot ∷ slots) (first ∷ xs) x h = ap (λ rest. first ∷ rest) (placed_full slots xs x (omega arith))

-- the slots of a list of all entries
pub filled_is_placed : (slots : Slots) (found : List FoundDateTimeKind)
    → filled slots found ≡ placed slots (map Some found)
filled_is_placed [] found = refl
filled_is_placed (slot ∷ slots) [] = refl
filled_is_placed (slot ∷ slots) (e ∷ found) = ap (λ rest. Some e ∷ rest) (filled_is_placed slots found)

module _ {S : Type 0} (holding : FoundDateTimeKind → S) where
  abbrev pub entries_from : ℕ → List FoundDateTimeKind → List S
  entries_from skip found = map holding (drop skip found)

  -- one more entry at the end of those from a number on, if it has that number or a later one
  entries_more : (found : List FoundDateTimeKind) (skip : ℕ) (e : FoundDateTimeKind) → skip ≤ length found
      → entries_from skip (found ++ e ∷ []) ≡ entries_from skip found ++ holding e ∷ []
  entries_more [] zero e h = refl
  entries_more [] (suc skip) e h = absurd (omega arith)
  entries_more (first ∷ found) zero e h = ap (λ rest. holding first ∷ rest) (entries_more found zero e (omega arith))
  entries_more (first ∷ found) (suc skip) e h = entries_more found skip e (omega arith)

  pub entries_none : (skip : ℕ) → entries_from skip [] ≡ []
  entries_none zero = refl
  entries_none (suc skip) = refl

  entries_skipped : (found : List FoundDateTimeKind) (skip : ℕ) (e : FoundDateTimeKind) → length found < skip
      → entries_from skip (found ++ e ∷ []) ≡ entries_from skip found
  entries_skipped found zero e h = absurd (omega arith)
  entries_skipped [] (suc skip) e h = entries_none skip
  entries_skipped (first ∷ found) (suc skip) e h = entries_skipped found skip e (omega arith)

  length-entries : (found : List FoundDateTimeKind) (skip : ℕ) → length (entries_from skip found) ≡ length found - skip
  length-entries [] zero = refl
  length-entries [] (suc skip) = omega arith
  length-entries (first ∷ found) zero = omega (arith, length-entries found zero)
  length-entries (first ∷ found) (suc skip) = length-entries found skip ∙ omega arith

  -- what becomes of the slots when one more is counted
  step : (slots : List S) (skip : ℕ) (before : List FoundDateTimeKind) (e : FoundDateTimeKind) (now : List S) →
      (skip ≤ length before → length before - skip < length slots
      → now ≡ set (placed slots (entries_from skip before)) (length before - skip) (holding e)) →
      (length before < skip → now ≡ placed slots (entries_from skip before)) →
      (skip ≤ length before → length slots ≤ length before - skip → now ≡ placed slots (entries_from skip before)) →
      now ≡ placed slots (entries_from skip (before ++ e ∷ []))
  step slots skip before e now next skipped full =
      let size = length-entries before skip in
      elim (cases_lt (length before) skip) [
        | inl less ↦ skipped less ∙ ap (λ xs. placed slots xs) (sym (entries_skipped before skip e less))
        | inr more ↦
            let longer = ap (λ xs. placed slots xs) (entries_more before skip e more) in
            elim (cases_lt (length before - skip) (length slots)) [
              | inl room ↦
                  next more room ∙ ap (λ position. set (placed slots (entries_from skip before)) position (holding e))
                  (sym size)
                  ∙ sym (placed_next slots (entries_from skip before) (holding e) (omega arith)) ∙ sym longer
              | inr none ↦ full more none ∙ sym (placed_full slots (entries_from skip before) (holding e) (omega arith))
                  ∙ sym longer
            ]
      ]

  -- the step of a writer that counts one more
  pub grows_by_one : (list grown : SlotWriter S) (e : FoundDateTimeKind) →
      grown.slots.ghost_name ≡ list.slots.ghost_name → grown.skip ≡ list.skip →
      (list.skip ≤ list.count → list.count - list.skip < length list.slots.now
      → grown.slots.now ≡ set list.slots.now (list.count - list.skip) (holding e)) →
      (list.count < list.skip → grown.slots.now ≡ list.slots.now) →
      (list.skip ≤ list.count → length list.slots.now ≤ list.count - list.skip → grown.slots.now ≡ list.slots.now) →
      grown.count ≡ min (list.count + 1) 18446744073709551615 → GrowsBy holding list grown (e ∷ [])
  grows_by_one list grown e same skip next skipped full count = (
    same,
    skip,
    λ slots before fits is_holding.
        let size = length-append before (e ∷ []) in
        let long = ap length is_holding.1 ∙ length-placed slots (entries_from list.skip before) in
        let now = step slots list.skip before e grown.slots.now
        (λ more room. next (omega arith) (omega arith)
        ∙ ap (λ xs. set xs (list.count - list.skip) (holding e)) is_holding.1
        ∙ ap (λ count. set (placed slots (entries_from list.skip before)) (count - list.skip) (holding e)) is_holding.0)
        (λ less. skipped (omega arith) ∙ is_holding.1)
        (λ more none. full (omega arith) (omega arith) ∙ is_holding.1) in
        (omega arith, now ∙ ap (λ k. placed slots (entries_from k (before ++ e ∷ []))) (sym skip)),
  )

  -- what a writer holds that had counted nothing
  pub held : (list grown : SlotWriter S) (slots : List S) (skip : ℕ) (found : List FoundDateTimeKind)
      → GrowsBy holding list grown found → length found < 2 ^ 64
      → list.slots.now ≡ slots → list.skip ≡ skip → list.count ≡ 0 → (grown.count ≡ length found)
      × (grown.slots.now ≡ placed slots (entries_from skip found))
  held list grown slots skip found (same, skips, more) fits these this none =
      let empty = ap (λ xs. placed slots xs) (entries_none list.skip) ∙ placed_none slots in
      let holds = more slots [] fits (none, these ∙ sym empty) in
      (holds.0, holds.1 ∙ ap (λ k. placed slots (entries_from k found)) (skips ∙ this))
