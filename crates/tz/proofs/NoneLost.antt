-- If a clock has a type all through the window of a reading, it shows the reading there or passes over it.
use Rattle.tz.proofs.Common.{arith, refl, ◌≡◌, subst, ints, inr, inl, [], ℕ, List, ◌+◌, pos, ℤ, Fields, IsClock, Zone, suc, ◌-ℤ◌, zero, ◌+ℤ◌, IsValid, ◌≤ℤ◌, LocalTimeType, reading, ◌⊎◌, ◌≢◌, Normal, FoundDateTimeKind, Clock, Skipped, IsFound, Contains, IsFoundBy, by_lt_z, PassesOver, IsWindow, Shows, gap_between}
use Rattle.tz.proofs.DatedEntries.{side_exists}
use Rattle.tz.proofs.ReadingWindows.{clock_between}

-- the clock shows the reading at some instant, or passes over it
abbrev IsMet : Clock → ℤ → Type 0
IsMet clock r =
    ((u : ℤ) × (t : LocalTimeType) × Shows clock r u t)
    ⊎ ((u : ℤ) × (before : LocalTimeType) × (after : LocalTimeType) × PassesOver clock r u before after)

module _ (clock : Clock) (r low high : ℤ) (has : (u : ℤ) → low ≤ℤ u → u ≤ℤ high → (t : LocalTimeType) × clock u t)
    (at_end : (t : LocalTimeType) → clock high t → r ≤ℤ (high +ℤ t.ut_offset)) where
  met_from : (n : ℕ) (u : ℤ) (t : LocalTimeType) → (u +ℤ pos n) ≡ high → low ≤ℤ u → clock u t → (u +ℤ t.ut_offset) ≤ℤ r
      → IsMet clock r
  met_from zero u t end from holds below =
      let same : u ≡ high = omega (arith, ints, end) in
      inl (u, t, (holds, omega (arith, ints, below, at_end t (subst (λ v. clock v t) same holds), same)))
  met_from (suc n) u t end from holds below =
      by_lt_z (u +ℤ t.ut_offset) r
      (λ before.
      let next = has (u +ℤ pos 1) (omega (arith, ints, from)) (omega (arith, ints, end)) in
      by_lt_z r (u +ℤ pos 1 +ℤ next.0.ut_offset)
      (λ over.
      inr (
        u +ℤ pos 1,
        t,
        next.0,
        (
          subst (λ v. clock v t) (omega (arith, ints)) holds,
          next.1,
          (omega (arith, ints, before), over),
        ),
      ))
      (λ not_over. met_from n (u +ℤ pos 1) next.0 (omega (arith, ints, end)) (omega (arith, ints, from)) next.1
      not_over))
      (λ reached. inl (u, t, (holds, omega (arith, ints, below, reached))))

-- and an entry determines it
entry_of : (clock : Clock) (f : Fields) → IsValid f → IsMet clock (reading f) → (e : FoundDateTimeKind)
    × IsFoundBy clock f e
entry_of clock f valid (inl (u, t, shows)) =
    (Normal (record { fields = f; local_time_type = t; unix_time = u }), (refl, shows))
entry_of clock f valid (inr (u, a, b, passes)) =
    let before = side_exists u f.nanoseconds a valid.in_range.nanoseconds in
    let after = side_exists u f.nanoseconds b valid.in_range.nanoseconds in
    (Skipped before.0 after.0, (u, a, b, passes, before.1, after.1))

some_between : (low high : ℤ) → low ≤ℤ high → (n : ℕ) × ((low +ℤ pos n) ≡ high)
some_between low high order =
    by_lt_z low high (λ less. let gap = gap_between low high less in
    (gap.0 + 1, omega (arith, ints, gap.1))) (λ same. (0, omega (arith, ints, order, same)))

pub none_lost : (z : Zone) (f : Fields) (low high : ℤ) (found : List FoundDateTimeKind) → IsValid f
    → IsWindow z.types z.extra_rule (reading f) low high →
    ((u : ℤ) → low ≤ℤ u → u ≤ℤ high → (t : LocalTimeType) × IsClock z u t) → IsFound (IsClock z) f found → found ≢ []
none_lost z f low high found valid window has is none =
    let between = clock_between z (reading f -ℤ high) (reading f -ℤ low) window.last window.first in
    let order : low ≤ℤ high = omega (arith, ints, window.first.1 (reading f -ℤ high) window.last.0) in
    let first = has low (omega (arith, ints)) order in
    let gap = some_between low high order in
    let met = met_from (IsClock z) (reading f) low high has (λ t clock. omega (arith, ints, (between high t clock).0))
    gap.0 low first.0 gap.1 (omega (arith, ints)) first.1 (omega (arith, ints, (between low first.0 first.1).1)) in
    let entry = entry_of (IsClock z) f valid met in
    omega (arith, (subst (λ es. Contains es entry.0) none (is.complete entry.0 entry.1)).1)
