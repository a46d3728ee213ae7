-- The types that a clock has are those of the list and of the rule.
use Rattle.tz.proofs.Common.{refl, ◌≡◌, inr, inl, ℕ, ℤ, IsClock, Some, Zone, ◌≤ℤ◌, None, Option, LocalTimeType, ◌⊎◌, Fixed, TransitionRule, Alternate, AreOffsetsOf, IsRuleType, AlternateTime, IsTypeAfter, IsTypeAt, IsTypeWithout}

-- the type of a rule is the fixed one, or one of the two
pub fixed_type : (fixed : LocalTimeType) (u : ℤ) (t : LocalTimeType) → IsRuleType (Fixed fixed) u t → t ≡ fixed
unfolding IsRuleType
fixed_type fixed u t is = is

pub alternate_type : (r : AlternateTime) (u : ℤ) (t : LocalTimeType) → IsRuleType (Alternate r) u t → (t ≡ r.dst)
    ⊎ (t ≡ r.std)
unfolding IsRuleType
alternate_type r u t (years, inl (day, is)) = inl is
alternate_type r u t (years, inr (day, is)) = inr is

-- the types of the clock are those of the list and of the rule
pub offsets_from_types : (z : Zone) (least greatest : ℤ) →
    ((i : ℕ) (t : LocalTimeType) → IsTypeAt z i t → (least ≤ℤ t.ut_offset) × (t.ut_offset ≤ℤ greatest)) →
    ((rule : TransitionRule) → z.extra_rule ≡ Some rule → (u : ℤ) (t : LocalTimeType) → IsRuleType rule u t
    → (least ≤ℤ t.ut_offset) × (t.ut_offset ≤ℤ greatest)) →
    AreOffsetsOf z least greatest
offsets_from_types z least greatest types rules u t = by_clock
  where
    after : (rule : Option TransitionRule) → z.extra_rule ≡ rule → IsTypeAfter rule u t → (least ≤ℤ t.ut_offset)
        × (t.ut_offset ≤ℤ greatest)
    after (Some rule) e at = rules rule e u t at
    after None e at = absurd at

    without : (rule : Option TransitionRule) → z.extra_rule ≡ rule → IsTypeWithout z rule u t → (least ≤ℤ t.ut_offset)
        × (t.ut_offset ≤ℤ greatest)
    without (Some rule) e at = rules rule e u t at
    without None e at = types 0 t at

    by_clock : IsClock z u t → (least ≤ℤ t.ut_offset) × (t.ut_offset ≤ℤ greatest)
    by_clock (inl (none, type)) = without z.extra_rule refl type
    by_clock (inr (last, is_last, (l, leap, inl (before, inl (early, at))))) = types 0 t at
    by_clock (inr (last, is_last, (l, leap, inl (before, inr (i, change, reached, at))))) = types change.type_index t at
    by_clock (inr (last, is_last, (l, leap, inr (from, type)))) = after z.extra_rule refl type
