-- The window of a reading holds all that the clock can show, and no more transitions take effect there than a rising
-- list of them has.
use Rattle.tz.proofs.Common.{arith, refl, ◌≡◌, subst, ◌∙◌, ints, inr, sym, inl, [], ap, ℕ, ◌∷◌, ◌<◌, List, length, ◌+◌, ℤ, Zone, ◌≤◌, suc, ◌-ℤ◌, zero, ◌-◌, ◌≤ℤ◌, Option, LocalTimeType, get_or, cases_lt, Contains, Fixed, TransitionRule, All, Alternate, AreOffsetsOf, IsRuleType, AtMostTakeEffectAround, AtMostTakeEffectIn, IsWindow, TakesEffectIn, AreRising, IsGreatestOffset, IsLeastOffset, IsOffsetOfRule, get_or_default, range_with_len}
use Rattle.std.proofs.lemmas.List.FromFn.{length-range_with_len, get_or-range_with_len}
use Rattle.tz_zone.specs.Offsets.{IsOffset}
use Rattle.tz.proofs.ClockTypes.{fixed_type, alternate_type, offsets_from_types}

-- the offset of what a rule answers is one of its offsets
offset_from_rule : (rule : TransitionRule) (u : ℤ) (t : LocalTimeType) → IsRuleType rule u t
    → IsOffsetOfRule rule t.ut_offset
offset_from_rule (Fixed fixed) u t at = ap (λ (x : LocalTimeType). x.ut_offset) (fixed_type fixed u t at)
offset_from_rule (Alternate r) u t at = elim (alternate_type r u t at) [
  | inl dst ↦ inr (ap (λ (x : LocalTimeType). x.ut_offset) dst)
  | inr std ↦ inl (ap (λ (x : LocalTimeType). x.ut_offset) std)
]

-- the reading less the greatest offset and less the least
pub window_from_offsets : (types : List LocalTimeType) (extra_rule : Option TransitionRule)
    (r low high least greatest : ℤ) → IsLeastOffset types extra_rule least → IsGreatestOffset types extra_rule greatest
    →
    low ≡ r -ℤ greatest → high ≡ r -ℤ least → IsWindow types extra_rule r low high
window_from_offsets types extra_rule r low high least greatest is_least is_greatest low_is high_is =
    let first : greatest ≡ r -ℤ low = omega (arith, ints, low_is) in
    let last : least ≡ r -ℤ high = omega (arith, ints, high_is) in
    record {
      first = subst (IsGreatestOffset types extra_rule) first is_greatest;
      last = subst (IsLeastOffset types extra_rule) last is_least;
    }

-- all offsets of the clock are between the least and the greatest
pub clock_between : (z : Zone) (least greatest : ℤ) → IsLeastOffset z.types z.extra_rule least
    → IsGreatestOffset z.types z.extra_rule greatest → AreOffsetsOf z least greatest
clock_between z least greatest is_least is_greatest =
    offsets_from_types z least greatest
    (λ i t at. between t.ut_offset (inl (i, t, at, refl)))
    (λ rule e u t at. between t.ut_offset (inr (rule, e, offset_from_rule rule u t at)))
  where
    between : (o : ℤ) → IsOffset z.types z.extra_rule o → (least ≤ℤ o) × (o ≤ℤ greatest)
    between o is = (is_least.1 o is, is_greatest.1 o is)

-- the least and the greatest offset are one each
pub window_unique : (types : List LocalTimeType) (extra_rule : Option TransitionRule) (r low high low' high' : ℤ) →
    IsWindow types extra_rule r low high → IsWindow types extra_rule r low' high' → (low ≡ low') × (high ≡ high')
window_unique types extra_rule r low high low' high' window window' = (
  omega (arith, ints, window.first.1 (r -ℤ low') window'.first.0, window'.first.1 (r -ℤ low) window.first.0),
  omega (arith, ints, window.last.1 (r -ℤ high') window'.last.0, window'.last.1 (r -ℤ high) window.last.0),
)

-- the transitions that take effect around a reading are those in its window
pub most_in_window : (z : Zone) (r low high : ℤ) → IsWindow z.types z.extra_rule r low high → (w : ℕ)
    → AtMostTakeEffectAround z r w → AtMostTakeEffectIn z low high w
most_in_window z r low high window w around =
    let same = window_unique z.types z.extra_rule r around.0 around.1 low high around.2 window in
    subst (λ (v : ℤ). AtMostTakeEffectIn z low v w) same.1
    (subst (λ (v : ℤ). AtMostTakeEffectIn z v around.1 w) same.0 around.3)

-- a rising list whose elements another rising list contains is no longer
no_longer : (positions others : List ℕ) → AreRising positions → AreRising others → All (Contains positions) others
    → length others ≤ length positions
no_longer positions [] rise rise' within = omega arith
no_longer positions (other ∷ others) rise rise' within =
    let last = position_of (length others) (omega arith) in
    omega (arith, last.1, last.2)
  where
    position_of : (k : ℕ) → k < length (other ∷ others) → (i : ℕ) × (k ≤ i) × (i < length positions)
        × (get_or positions i 0 ≡ get_or (other ∷ others) k 0)
    position_of zero h =
        let at = within zero 0 h in
        let is : get_or positions at.0 0 ≡ other = get_or_default positions at.0 0 other at.1 ∙ at.2 in
        (at.0, omega arith, at.1, is)
    position_of (suc k) h =
        let before = position_of k (omega (arith, h)) in
        let at = within (suc k) 0 h in
        let here = get_or (other ∷ others) (suc k) 0 in
        let is : get_or positions at.0 0 ≡ here = get_or_default positions at.0 0 here at.1 ∙ at.2 in
        let more : get_or (other ∷ others) k 0 < here = rise' k (suc k) 0 (omega arith) h in
        let later : before.0 < at.0 = elim (cases_lt before.0 at.0) [
          | inl less ↦ less
          | inr not_less ↦ elim (cases_lt at.0 before.0) [
            | inl back ↦ absurd (omega (arith, rise at.0 before.0 0 back before.2, before.3, is, more))
            | inr same ↦
                let one : at.0 ≡ before.0 = omega (arith, not_less, same) in
                absurd (omega (arith, ap (λ i. get_or positions i 0) one, before.3, is, more))
          ]
        ] in
        (at.0, omega (arith, later, before.1), at.1, is)

-- no more take effect than a rising list has that holds all that do
pub as_many_as_listed : (z : Zone) (low high : ℤ) (positions : List ℕ) → AreRising positions
    → ((i : ℕ) → (TakesEffectIn z low high i → Contains positions i)
    × (Contains positions i → TakesEffectIn z low high i)) →
    (w : ℕ) → (AtMostTakeEffectIn z low high w → length positions ≤ w) × (length positions ≤ w
    → AtMostTakeEffectIn z low high w)
as_many_as_listed z low high positions rise just w = (
  (λ most. most positions rise (λ k d h. (just (get_or positions k d)).1
      (k, h, get_or_default positions k (get_or positions k d) d h))),
  (λ bound others rise' effects.
      let within : All (Contains positions) others = λ k d h. (just (get_or others k d)).0 (effects k d h) in
      omega (arith, bound, no_longer positions others rise rise' within)),
)

-- if those from one position up to another do, they are not more
pub as_many_as_passed : (z : Zone) (low high : ℤ) (w : ℕ) → AtMostTakeEffectIn z low high w → (first position : ℕ)
    → first ≤ position → ((i : ℕ) → first ≤ i → i < position → TakesEffectIn z low high i) → position ≤ first + w
as_many_as_passed z low high w most first position order effects =
    let count = position - first in
    let size = length-range_with_len first count in
    let bound = most (range_with_len first count)
    (λ i j d less inside.
    omega (
      arith,
      (get_or-range_with_len first count i d (omega (arith, less, inside, size))),
      (get_or-range_with_len first
          count j d (omega (arith, inside, size))),
      less,
    ))
    (λ k d inside.
    let within : k < count = omega (arith, inside, size) in
    subst (TakesEffectIn z low high) (sym (get_or-range_with_len first count k d within))
    (effects (first + k) (omega arith) (omega (arith, within, order)))) in
    omega (arith, bound, size, order)
