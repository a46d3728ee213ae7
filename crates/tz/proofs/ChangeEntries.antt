-- What a reading has where the clock has one type up to a change, and another from there on.
use Rattle.tz.proofs.Common.{arith, refl, ◌≡◌, ints, inr, inl, [], ◌∷◌, pos, ℤ, IsClock, Some, Zone, ◌-ℤ◌, ◌<ℤ◌, ◌≤ℤ◌, None, LocalTimeType, Shown, Jump, Entry, HasTwoTypes, IsEntryIn, by_lt_z, AreEntries, IsEntryOf, IsJumpOver}
use Rattle.tz.proofs.EntryWalks.{entries_around, first_in, from_low, given_shown, none_beside, none_late, second_in, up_to_high}

module _ {r since : ℤ} (a b : LocalTimeType) {u v : ℤ} (at_u : u ≡ r -ℤ a.ut_offset) (at_v : v ≡ r -ℤ b.ut_offset) where
  pub from_since : ¬ IsJumpOver r since a b → since ≤ℤ u → since ≤ℤ v
  from_since not_over late = by_lt_z v since
      (λ early. absurd (not_over (omega (arith, ints, at_u, late), omega (arith, ints, at_v, early)))) (λ from. from)

  module _ (z : Zone) (has : HasTwoTypes z r since a b) where
    first_of : u <ℤ since → IsEntryOf r None has.low (Some a) (since -ℤ pos 1) (Shown u a)
    first_of before = given_shown r None has.low (Some a) (since -ℤ pos 1) a u refl at_u
        (from_low z r since a b has u at_u) (omega (arith, ints, before))

    second_of : since ≤ℤ v → IsEntryOf r (Some a) since (Some b) has.high (Shown v b)
    second_of from = given_shown r (Some a) since (Some b) has.high b v refl at_v from
        (up_to_high z r since a b has v at_v)

    none_first : since ≤ℤ u → (e : Entry) → ¬ IsEntryOf r None has.low (Some a) (since -ℤ pos 1) e
    none_first late = none_late r None has.low (Some a) (since -ℤ pos 1) a u refl at_u
        (from_low z r since a b has u at_u) (omega (arith, ints, late))

    pub first_shown : u <ℤ since → IsEntryIn (IsClock z) r (Shown u a)
    first_shown before = first_in z r since a b has (Shown u a) (first_of before)

    pub second_shown : since ≤ℤ v → IsEntryIn (IsClock z) r (Shown v b)
    second_shown from = second_in z r since a b has (Shown v b) (second_of from)

    pub skipped : IsJumpOver r since a b → IsEntryIn (IsClock z) r (Jump since a b)
    skipped over = second_in z r since a b has (Jump since a b) (refl, refl, refl, over)

    pub both : u <ℤ since → since ≤ℤ v → AreEntries (IsClock z) r (Shown u a ∷ Shown v b ∷ [])
    both before from = entries_around z r since a b has (Shown u a ∷ []) (Shown v b ∷ [])
        (inr (Shown u a, first_of before, refl)) (inr (Shown v b, second_of from, refl))

    pub first_alone : u <ℤ since → v <ℤ since → AreEntries (IsClock z) r (Shown u a ∷ [])
    first_alone before early =
        entries_around z r since a b has (Shown u a ∷ []) [] (inr (Shown u a, first_of before, refl))
        (inl (
          refl,
          none_beside r (Some a) since (Some b) has.high a b v refl refl at_v early
              (λ over. absurd (omega (arith, ints, at_u, before, over.0))),
        ))

    pub jump_alone : IsJumpOver r since a b → AreEntries (IsClock z) r (Jump since a b ∷ [])
    jump_alone over =
        entries_around z r since a b has [] (Jump since a b ∷ [])
        (inl (refl, none_first (omega (arith, ints, at_u, over.0))))
        (inr (Jump since a b, (refl, refl, refl, over), refl))

    pub second_alone : since ≤ℤ u → since ≤ℤ v → AreEntries (IsClock z) r (Shown v b ∷ [])
    second_alone late from = entries_around z r since a b has [] (Shown v b ∷ []) (inl (refl, none_first late))
        (inr (Shown v b, second_of from, refl))
