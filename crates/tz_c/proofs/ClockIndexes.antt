-- The type of a zone's clock stands in its list or in its rule, and where it stands first in both.
use Rattle.tz_c.proofs.Common.{refl, inl, inr, ◌≡◌, arith, ◌<◌, ℕ, Zone, length, sym, Some, IsClock, List, Option, ap, slice_get, ◌≢◌, [], slice_get_within, suc, zero, ◌+◌, ◌∷◌, None, ℤ, IsTypeAfter, LocalTimeType, TransitionRule, IsTypeWithout, ◌⊎◌}
use Rattle.std.proofs.Common.{◌++◌}
use Rattle.tz_rule.specs.Rule.{IsRuleType, types_of}
use Rattle.tz_rule.specs.declared.timezone.transition_rule.TransitionRule.TheVariants.{Fixed, Alternate}
use Rattle.tz_c.specs.Indexes.{IsFirstIndex, rule_types, Stands}

rule_type : (rule : TransitionRule) (u : ℤ) (t : LocalTimeType) → IsRuleType rule u t → Stands (types_of rule) t
unfolding IsRuleType
rule_type (Fixed fixed) u t is = (0, ap Some (sym is))
rule_type (Alternate r) u t (years, inl (day, is)) = (1, ap Some (sym is))
rule_type (Alternate r) u t (years, inr (day, is)) = (0, ap Some (sym is))

after : (rule : Option TransitionRule) (u : ℤ) (t : LocalTimeType) → IsTypeAfter rule u t → Stands (rule_types rule) t
after (Some rule) u t is = rule_type rule u t is
after None u t is = absurd is

pub clock_type : (z : Zone) (u : ℤ) (t : LocalTimeType) → IsClock z u t → Stands z.types t
    ⊎ Stands (rule_types z.extra_rule) t
clock_type z u t = by_clock
  where
    without : (rule : Option TransitionRule) → z.extra_rule ≡ rule → IsTypeWithout z rule u t → Stands z.types t
        ⊎ Stands (rule_types rule) t
    without (Some rule) same is = inr (rule_type rule u t is)
    without None same is = inl (0, is)

    by_clock : IsClock z u t → Stands z.types t ⊎ Stands (rule_types z.extra_rule) t
    by_clock (inl (none, is)) = without z.extra_rule refl is
    by_clock (inr (last, is_last, (l, leap, inl (before, inl (all, at))))) = inl (0, at)
    by_clock (inr (last, is_last, (l, leap, inl (before, inr (i, change, reached, at))))) = inl (change.type_index, at)
    by_clock (inr (last, is_last, (l, leap, inr (reached, is)))) = inr (after z.extra_rule u t is)

-- indexes in two lists, one after the other
index_in_first : (xs ys : List LocalTimeType) (i : ℕ) (t : LocalTimeType)
    → slice_get xs i ≡ Some t → slice_get (xs ++ ys) i ≡ Some t
index_in_first [] ys i t at = absurd (cc)
index_in_first (x ∷ xs) ys zero t at = at
index_in_first (x ∷ xs) ys (suc i) t at = index_in_first xs ys i t at

index_in_second : (xs ys : List LocalTimeType) (i : ℕ) (t : LocalTimeType)
    → slice_get ys i ≡ Some t → slice_get (xs ++ ys) (length xs + i) ≡ Some t
index_in_second [] ys i t at = let e : 0 + i ≡ i = omega arith in rw e at
index_in_second (x ∷ xs) ys i t at = let e : length (x ∷ xs) + i ≡ suc (length xs + i) = omega arith in
    rw e (index_in_second xs ys i t at)

-- an index of the first list is one in it alone
back : (xs ys : List LocalTimeType) (k : ℕ) (t : LocalTimeType) → k < length xs
    → slice_get (xs ++ ys) k ≡ Some t → slice_get xs k ≡ Some t
back [] ys k t within at = absurd (omega (arith, within))
back (x ∷ xs) ys zero t within at = at
back (x ∷ xs) ys (suc k) t within at = back xs ys k t (omega (arith, within)) at

pub first_in_first : (xs ys : List LocalTimeType) (i : ℕ) (t : LocalTimeType)
    → IsFirstIndex xs t i → IsFirstIndex (xs ++ ys) t i
first_in_first xs ys i t is = record {
  at = index_in_first xs ys i t is.at;
  first = λ k less at. is.first k less
      (back xs ys k t (omega (arith, less, slice_get_within xs i t is.at)) at);
}

-- no index of the first list has the type, nor one of the second before the first there
none_before : (xs ys : List LocalTimeType) (i : ℕ) (t : LocalTimeType) → ((k : ℕ) → slice_get xs k ≢ Some t)
    → ((k : ℕ) → k < i → slice_get ys k ≢ Some t) → (k : ℕ) → k < length xs + i → slice_get (xs ++ ys) k ≢ Some t
none_before [] ys i t none first k less at = first k (omega (arith, less)) at
none_before (x ∷ xs) ys i t none first zero less at = none 0 at
none_before (x ∷ xs) ys i t none first (suc k) less at =
    none_before xs ys i t (λ j. none (suc j)) first k (omega (arith, less)) at

pub first_in_second : (xs ys : List LocalTimeType) (i : ℕ) (t : LocalTimeType) → ((k : ℕ) → slice_get xs k ≢ Some t)
    → IsFirstIndex ys t i → IsFirstIndex (xs ++ ys) t (length xs + i)
first_in_second xs ys i t none is = record {
  at = index_in_second xs ys i t is.at;
  first = none_before xs ys i t none is.first;
}
