-- A rule whose daylight saving time never begins before it ends, or never ends before it begins again, has one type.
use Rattle.tz_rule.proofs.Common.{arith, ◌≡◌, ints, pos, ◌∙◌, ℕ, refl, ◌+ℤ◌, ℤ, sym, ◌≤ℤ◌, ◌-ℤ◌, inl, inr, true, end_of, false, start_of, ◌<ℤ◌, AlternateTime, List, AreRuleDays, suc, IsInRuleRange, zero, by_lt_z, Alternate, ComesFirst, IsRuleType, EndsNextYear, IsDaylight, IsTableOf, IsInRuleYears, ComesBeforeNext, HasOneType}
use Rattle.tz_rule.proofs.DaylightSpans.{over, to_come, paired_end-unique}
use Rattle.tz_rule.proofs.OrderByTables.{comes_first-from, comes_before_next-from}
use Rattle.tz_rule.proofs.YearlyInstants.{IsYearly, IsYearly-start_of, IsYearly-end_of}

module _ (r : AlternateTime) where
  pub one_type_of_equal : r.std ≡ r.dst → HasOneType (Alternate r)
  unfolding IsRuleType
  one_type_of_equal same u v s t (_, inl (_, e)) (_, inl (_, e')) = e ∙ sym e'
  one_type_of_equal same u v s t (_, inl (_, e)) (_, inr (_, e')) = e ∙ sym same ∙ sym e'
  one_type_of_equal same u v s t (_, inr (_, e)) (_, inl (_, e')) = e ∙ same ∙ sym e'
  one_type_of_equal same u v s t (_, inr (_, e)) (_, inr (_, e')) = e ∙ sym e'

  one_type_if_never : ((v : ℤ) → ¬ IsDaylight (start_of r) (end_of r) v) → HasOneType (Alternate r)
  unfolding IsRuleType
  one_type_if_never never u v s t (_, inl (day, e)) b = absurd (never u day)
  one_type_if_never never u v s t (_, inr (_, e)) (_, inl (day, e')) = absurd (never v day)
  one_type_if_never never u v s t (_, inr (_, e)) (_, inr (_, e')) = e ∙ sym e'

  one_type_if_always : ((v : ℤ) → IsInRuleYears v → IsDaylight (start_of r) (end_of r) v) → HasOneType (Alternate r)
  unfolding IsRuleType
  one_type_if_always always u v s t (years, inr (none, e)) b = absurd (none (always u years))
  one_type_if_always always u v s t (_, inl (_, e)) (years, inr (none, e')) = absurd (none (always v years))
  one_type_if_always always u v s t (_, inl (_, e)) (_, inl (_, e')) = e ∙ sym e'

  module _ (starts ends : List ℤ) (ts : IsTableOf (start_of r) starts) (te : IsTableOf (end_of r) ends) where
    -- each start has the end of the next year, and none comes before it
    pub one_type_across_years : EndsNextYear (start_of r) (end_of r) → ¬ ComesBeforeNext starts ends
        → HasOneType (Alternate r)
    one_type_across_years across never = one_type_if_never (λ v (y, end, pair, from, to).
        never (comes_before_next-from (start_of r) (end_of r) starts ends ts te y
        (omega (arith, ints, from, to, paired_end-unique (start_of r) (end_of r) true across y end pair))))

    -- each start has the end of its own year, and none comes before it
    pub one_type_in_order : ¬ EndsNextYear (start_of r) (end_of r) → ¬ ComesFirst starts ends → HasOneType (Alternate r)
    one_type_in_order in_order never = one_type_if_never (λ v (y, end, pair, from, to).
        never (comes_first-from (start_of r) (end_of r) starts ends ts te y
        (omega (arith, ints, from, to, paired_end-unique (start_of r) (end_of r) false in_order y end pair))))

    -- no end comes before the next year's start
    pub one_type_without_gap : IsInRuleRange r → AreRuleDays r → ¬ EndsNextYear (start_of r) (end_of r)
        → ¬ ComesBeforeNext ends starts → HasOneType (Alternate r)
    one_type_without_gap range days in_order never = one_type_if_always (λ v (year, is, _).
        let first = year -ℤ pos 2 in
        let last : first +ℤ pos 4 ≡ year +ℤ pos 2 = omega (arith, ints) in
        joined v 4 first (over (start_of r) starts_are v year first is (omega (arith, ints)))
        (rw last (to_come (end_of r) ends_are v year (year +ℤ pos 2) is (omega (arith, ints)))))
      where
        starts_are : IsYearly (start_of r)
        starts_are = IsYearly-start_of r range days.start_is

        ends_are : IsYearly (end_of r)
        ends_are = IsYearly-end_of r range days.end_is

        next_start : (y : ℤ) → start_of r (y +ℤ pos 1) ≤ℤ end_of r y
        next_start y = by_lt_z (end_of r y) (start_of r (y +ℤ pos 1))
            (λ gap. absurd (never (comes_before_next-from (end_of r) (start_of r) ends starts te ts y gap))) (λ h. h)

        -- from a start up to an end some years later the spans join
        joined : (v : ℤ) (n : ℕ) (y : ℤ) → start_of r y ≤ℤ v → v <ℤ end_of r (y +ℤ pos n)
            → IsDaylight (start_of r) (end_of r) v
        joined v zero y from to = let same : y +ℤ pos 0 ≡ y = omega (arith, ints) in
            (y, end_of r y, inr (in_order, refl), from, rw same at to)
        joined v (suc n) y from to =
            by_lt_z v (end_of r y)
            (λ here. (y, end_of r y, inr (in_order, refl), from, here))
            (λ past. let next : y +ℤ pos (suc n) ≡ y +ℤ pos 1 +ℤ pos n = omega (arith, ints) in
            joined v n (y +ℤ pos 1) (omega (arith, ints, next_start y, past)) (rw next at to))
