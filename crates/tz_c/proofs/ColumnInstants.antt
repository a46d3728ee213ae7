-- The answer of an element of a column by its instant, or by why it has none.
use Rattle.tz_c.proofs.Common.{refl, inl, inr, sym, subst, ℕ, ℤ, Zone, List, Option, None, Some, Disambiguation, IsInstantAnswer, IsInstantAt, TzError}
use Rattle.tz_base.specs.declared.fields.Fields.{Fields}
use Rattle.tz.specs.InstantColumns.{HasNoInstant, HasNoInstantOfReading, HasNoneAt, HoldsInstantAt, IsInstantOf, IsInstantOfReading}
use Rattle.tz_c.specs.Columns.{IsCodeOfNone, IsReadingAnswer, IsReadingAt}

module _ (z : Zone) (choice : Disambiguation) where
  pub instant_at : (fields : List Fields) (i : ℕ) (u : ℤ)
      → HoldsInstantAt (λ (u : ℤ). u) (IsInstantOf z choice) fields i u → IsInstantAt z choice fields i 0 u
  instant_at fields i u holds f at =
      let h = holds f at in
      subst (λ (v : ℤ). IsInstantAnswer z choice f 0 v) (sym h.2) (inl (refl, (h.1.0, h.1.1), h.1.2))

  pub no_instant_at : (fields : List Fields) (i : ℕ) (e : Option TzError) (code : ℕ) → IsCodeOfNone e code
      → HasNoneAt (HasNoInstant z choice) fields i e → (u : ℤ) → IsInstantAt z choice fields i code u
  no_instant_at fields i None code is none u f at =
      let h = none f at in inr (inl (is, (h.0, h.1), h.2))
  no_instant_at fields i (Some e) code is none u f at = inr (inr (e, is, none f at))

  pub reading_at : (readings : List ℤ) (i : ℕ) (u : ℤ)
      → HoldsInstantAt (λ (u : ℤ). u) (IsInstantOfReading z choice) readings i u
      → IsReadingAt z choice readings i 0 u
  reading_at readings i u holds r at =
      let h = holds r at in
      subst (λ (v : ℤ). IsReadingAnswer z choice r 0 v) (sym h.2) (inl (refl, h.1))

  pub no_reading_at : (readings : List ℤ) (i : ℕ) (e : Option TzError) (code : ℕ) → IsCodeOfNone e code
      → HasNoneAt (HasNoInstantOfReading z choice) readings i e → (u : ℤ) → IsReadingAt z choice readings i code u
  no_reading_at readings i None code is none u r at = inr (inl (is, none r at))
  no_reading_at readings i (Some e) code is none u r at = inr (inr (e, is, none r at))
