-- What holds of each type of a zone's list and of its rule holds of each type that its clock shows.
use Rattle.tz_zone.proofs.Common.{◌≡◌, ℕ, refl, sym, inr, inl, ℤ, subst, Some, LocalTimeType, Zone, Option, slice_get, None, IsClock, TransitionRule, IsTypeWithout, IsRuleType, IsTypeAfter, Fixed, Alternate, IsTransitionType}

-- a fact of the type of a fixed rule, or of both types of an alternate one
abbrev pub HoldsOfRule : (LocalTimeType → Type 0) → TransitionRule → Type 0
HoldsOfRule P (Fixed fixed) = P fixed
HoldsOfRule P (Alternate r) = P r.std × P r.dst

pub of_rule_type : (P : LocalTimeType → Type 0) (rule : TransitionRule) → HoldsOfRule P rule
    → (u : ℤ) (t : LocalTimeType) → IsRuleType rule u t → P t
unfolding IsRuleType
of_rule_type P (Fixed fixed) holds u t is = subst P (sym is) holds
of_rule_type P (Alternate r) holds u t (years, inl (day, is)) = subst P (sym is) holds.1
of_rule_type P (Alternate r) holds u t (years, inr (night, is)) = subst P (sym is) holds.0

module _ (P : LocalTimeType → Type 0) (z : Zone) (of_list : (i : ℕ) (t : LocalTimeType) → slice_get z.types i ≡ Some t
    → P t)
    (of_rule : (rule : TransitionRule) → z.extra_rule ≡ Some rule → (u : ℤ) (t : LocalTimeType) → IsRuleType rule u t
    → P t) where
  of_type_without : (extra : Option TransitionRule) → z.extra_rule ≡ extra → (u : ℤ) (t : LocalTimeType)
      → IsTypeWithout z extra u t → P t
  of_type_without (Some rule) is u t type = of_rule rule is u t type
  of_type_without None is u t type = of_list 0 t type

  of_type_after : (extra : Option TransitionRule) → z.extra_rule ≡ extra → (u : ℤ) (t : LocalTimeType)
      → IsTypeAfter extra u t → P t
  of_type_after (Some rule) is u t type = of_rule rule is u t type
  of_type_after None is u t type = absurd type

  of_transition_type : (l : ℤ) (t : LocalTimeType) → IsTransitionType z l t → P t
  of_transition_type l t (inl (before, type)) = of_list 0 t type
  of_transition_type l t (inr (i, change, last, type)) = of_list change.type_index t type

  pub of_shown_type : (u : ℤ) (t : LocalTimeType) → IsClock z u t → P t
  of_shown_type u t (inl (none, type)) = of_type_without z.extra_rule refl u t type
  of_shown_type u t (inr (last, is_last, (l, leap, inl (before, type)))) = of_transition_type l t type
  of_shown_type u t (inr (last, is_last, (l, leap, inr (from, type)))) = of_type_after z.extra_rule refl u t type
