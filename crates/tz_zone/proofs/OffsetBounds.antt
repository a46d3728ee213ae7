-- The less and the greater of two numbers, and that an offset of a zone can be found among those that it has.
use Rattle.tz_zone.proofs.Common.{◌≡◌, arith, ℕ, ints, refl, sym, inr, inl, ℤ, ◌∙◌, subst, ap, List, Some, LocalTimeType, Zone, [], Option, slice_get, ◌≢◌, None, false, same_Some, ◌∷◌, ◌⊎◌, suc, true, TransitionRule, zero, false≢true, cond, none-some, int_max, Fixed, Alternate, IsOffsetOfTypes, int_min, IsOffsetOfRule, zone_of_type, AreEndOffsets, Decides-int_eq, IsOffset, cases_Bool, int_lt, ◌≤ℤ◌}
use Rattle.std.specs.Ordering.{int_eq}
use Rattle.std.proofs.Math.Logic.{∥∥₁_elim, ∥∥₁_map}
use Rattle.std.proofs.Props.{props}

-- the less of two numbers is one of them, and so is the greater
pub int_min_either : (x y : ℤ) → (int_min x y ≡ x) ⊎ (int_min x y ≡ y)
int_min_either x y = elim (int_lt y x) as (λ t. (cond t y x ≡ x) ⊎ (cond t y x ≡ y))
    [ true ↦ inr refl | false ↦ inl refl ]

pub int_min_from : (low x y : ℤ) → low ≤ℤ x → low ≤ℤ y → low ≤ℤ int_min x y
int_min_from low x y first second = elim (int_lt y x) as (λ t. low ≤ℤ cond t y x)
    [ true ↦ second | false ↦ first ]

pub int_max_either : (x y : ℤ) → (int_max x y ≡ x) ⊎ (int_max x y ≡ y)
int_max_either x y = elim (int_lt y x) as (λ t. (cond t x y ≡ x) ⊎ (cond t x y ≡ y))
    [ true ↦ inl refl | false ↦ inr refl ]

-- two numbers are equal or not
decide_equal : (x y : ℤ) → (x ≡ y) ⊎ (x ≢ y)
decide_equal x y = elim (cases_Bool (int_eq x y)) [
  | inl same ↦ inl ((Decides-int_eq x y).0 same)
  | inr other ↦ inr (λ e. absurd (false≢true (sym other ∙ (Decides-int_eq x y).1 e)))
]

-- a number is the offset of some type of a list, or not
decide_of_types : (types : List LocalTimeType) (o : ℤ) → IsOffsetOfTypes types o ⊎ ¬ IsOffsetOfTypes types o
decide_of_types [] o = inr (λ is. absurd (none-some is.1 is.2))
decide_of_types (t ∷ types) o = elim (decide_equal o t.ut_offset) [
  | inl e ↦ inl (0, t, refl, e)
  | inr other ↦ elim (decide_of_types types o) [
    | inl is ↦ inl (suc is.0, is.1, is.2, is.3)
    | inr none ↦ inr (λ is. neither other none is.0 is.1 is.2 is.3)
  ]
]
  where
    neither : o ≢ t.ut_offset → ¬ IsOffsetOfTypes types o → (i : ℕ) (found : LocalTimeType)
        → slice_get (t ∷ types) i ≡ Some found → ¬ (o ≡ found.ut_offset)
    neither other none zero found at is = other
        (is ∙ sym (ap (λ (x : LocalTimeType). x.ut_offset) (same_Some t found at)))
    neither other none (suc i) found at is = none (i, found, at, is)

-- of a rule
decide_of_rule : (rule : TransitionRule) (o : ℤ) → IsOffsetOfRule rule o ⊎ ¬ IsOffsetOfRule rule o
decide_of_rule (Fixed fixed) o = decide_equal o fixed.ut_offset
decide_of_rule (Alternate r) o = elim (decide_equal o r.std.ut_offset) [
  | inl std ↦ inl (inl std)
  | inr other ↦ elim (decide_equal o r.dst.ut_offset)
      [ inl dst ↦ inl (inr dst) | inr neither ↦ inr (λ is. elim is [ inl std ↦ other std | inr dst ↦ neither dst ]) ]
]

-- of a zone
decide_of_zone : (types : List LocalTimeType) (extra_rule : Option TransitionRule) (o : ℤ) → IsOffset types extra_rule o
    ⊎ ¬ IsOffset types extra_rule o
decide_of_zone types None o = elim (decide_of_types types o) [
  | inl is ↦ inl (inl is)
  | inr none ↦ inr (λ is. elim is [ inl of_type ↦ none of_type | inr of_rule ↦ none-some of_rule.0 of_rule.1 ])
]
decide_of_zone types (Some rule) o = elim (decide_of_types types o) [
  | inl is ↦ inl (inl is)
  | inr none ↦ elim (decide_of_rule rule o) [
    | inl is ↦ inl (inr (rule, refl, is))
    | inr neither ↦ inr (λ is. elim is [
      | inl of_type ↦ none of_type
      | inr of_rule ↦ neither (subst (λ (r : TransitionRule). IsOffsetOfRule r o)
          (sym (same_Some rule of_rule.0 of_rule.1)) of_rule.2)
    ])
  ]
]

-- what is known to be one of a zone's offsets is found among them
found_offset : (types : List LocalTimeType) (extra_rule : Option TransitionRule) (o : ℤ)
    → ∥ IsOffset types extra_rule o ∥₁ → IsOffset types extra_rule o
found_offset types extra_rule o known = elim (decide_of_zone types extra_rule o)
    [ inl is ↦ is | inr none ↦ absurd (∥∥₁_elim known (hlevel props) none) ]

-- and so are the least and the greatest
pub found_end_offsets : (z : Zone) (least greatest : ℤ) → ∥ AreEndOffsets z least greatest ∥₁
    → AreEndOffsets z least greatest
found_end_offsets z least greatest known = (
  (
    found_offset z.types z.extra_rule least (∥∥₁_map known (λ ends. ends.0.0)),
    λ o is. ∥∥₁_elim known (hlevel props) (λ ends. ends.0.1 o is),
  ),
  (
    found_offset z.types z.extra_rule greatest (∥∥₁_map known (λ ends. ends.1.0)),
    λ o is. ∥∥₁_elim known (hlevel props) (λ ends. ends.1.1 o is),
  ),
)

-- those of a zone that has one type alone
pub ends_of_type : (t : LocalTimeType) → AreEndOffsets (zone_of_type t) t.ut_offset t.ut_offset
ends_of_type t = (
  (inl (0, t, refl, refl), λ o is. omega (arith, ints, one o is)),
  (inl (0, t, refl, refl), λ o is. omega (arith, ints, one o is)),
)
  where
    of_list : (o : ℤ) (i : ℕ) (found : LocalTimeType) → slice_get (t ∷ []) i ≡ Some found → o ≡ found.ut_offset
        → o ≡ t.ut_offset
    of_list o zero found at is = is ∙ sym (ap (λ (x : LocalTimeType). x.ut_offset) (same_Some t found at))
    of_list o (suc i) found at is = absurd (none-some found at)

    one : (o : ℤ) → IsOffset (t ∷ []) None o → o ≡ t.ut_offset
    one o is = elim is [
      | inl of_type ↦ of_list o of_type.0 of_type.1 of_type.2 of_type.3
      | inr of_rule ↦
          absurd (none-some of_rule.0 of_rule.1)
    ]
