-- The tables of starts and ends determine what their years determine: which comes first, and whether the order changes.
use Rattle.tz_rule.proofs.Common.{arith, ◌≡◌, ints, pos, ◌∙◌, ℕ, ◌+ℤ◌, ℤ, sym, ap, ◌-ℤ◌, inl, inr, end_of, entry, start_of, ◌<ℤ◌, AlternateTime, List, AreRuleDays, IsInRuleRange, is_leap, negsuc, year_day_of, ComesFirst, end_table, first_kind, start_table, day_table, subst, year_kind, IsConflict, IsTableOf, RuleDay, ChangesOrder, IsInconsistent, IsRuleDay, first_day-next, next_entry, ComesAfterNext, ComesBeforeNext, IsPairOf, is_leap_kind, seconds_in_kind, week_day_of_kind, IsConsistentRule, get_or-map-range_with_len, length-map-range_with_len}
use Rattle.tz_rule.proofs.PairKinds.{year_kind-below, year_kind-leap, year_kind-week_day, pair_of, pair_occurs, kind_occurs}
use Rattle.tz_rule.proofs.YearlyInstants.{IsYearly, year_day_in, local_instant, local_instant-is, IsYearly-start_of, IsYearly-end_of, consistent_from_near, none_near}

-- the tables that are made are those of starts and ends

year_day_in-kind : (d : RuleDay) (year : ℤ)
    → year_day_of d (is_leap_kind (year_kind year)) (week_day_of_kind (year_kind year)) ≡ year_day_in d year
unfolding year_day_in
year_day_in-kind d year = ap (λ b. year_day_of d b (week_day_of_kind (year_kind year))) (year_kind-leap year)
    ∙ ap (year_day_of d (is_leap year)) (year_kind-week_day year)

IsTableOf-local : (d : RuleDay) (time offset : ℤ) → IsRuleDay d
    → IsTableOf (local_instant d time offset) (day_table d (time -ℤ offset))
unfolding day_table
IsTableOf-local d time offset valid = record {
  size = length-map-range_with_len (seconds_in_kind d (time -ℤ offset)) 0 14;
  entries = λ year. let read = get_or-map-range_with_len (seconds_in_kind d (time -ℤ offset)) 0 14 (year_kind year)
      (year_kind year) (pos 0) (year_kind-below year) (omega arith) in
      omega (arith, ints, read, (local_instant-is d time offset year valid).0, year_day_in-kind d year);
}

pub IsTableOf-start_of : (r : AlternateTime) (table : List ℤ) → table ≡ start_table r → IsRuleDay r.dst_start
    → IsTableOf (start_of r) table
unfolding start_of start_table
IsTableOf-start_of r table is valid = subst (IsTableOf (start_of r)) (sym is)
    (IsTableOf-local r.dst_start r.dst_start_time r.std.ut_offset valid)

pub IsTableOf-end_of : (r : AlternateTime) (table : List ℤ) → table ≡ end_table r → IsRuleDay r.dst_end
    → IsTableOf (end_of r) table
unfolding end_of end_table
IsTableOf-end_of r table is valid = subst (IsTableOf (end_of r)) (sym is)
    (IsTableOf-local r.dst_end r.dst_end_time r.dst.ut_offset valid)

module _ (f g : ℤ → ℤ) (a b : List ℤ) (ta : IsTableOf f a) (tb : IsTableOf g b) where
  pub comes_first-year : ComesFirst a b → (y : ℤ) × (f y <ℤ g y)
  comes_first-year (kind, below, h) =
      let occurs = kind_occurs kind below in (
        occurs.0,
        omega (
          arith,
          ints,
          ta.entries occurs.0,
          tb.entries occurs.0,
          ap (entry a) occurs.1,
          ap
              (entry b) occurs.1,
          h,
        ),
      )

  pub comes_first-from : (y : ℤ) → f y <ℤ g y → ComesFirst a b
  comes_first-from y h = (year_kind y, year_kind-below y, omega (arith, ints, ta.entries y, tb.entries y))

  pair_entries : (y : ℤ) (pair : ℕ) → IsPairOf y pair → next_entry b pair -ℤ entry a (first_kind pair)
      ≡ g (y +ℤ pos 1) -ℤ f y
  pair_entries y pair is =
      omega (
        arith,
        ints,
        ta.entries y,
        tb.entries (y +ℤ pos 1),
        ap (entry a) is.first_is,
        ap
            (entry b) is.second_is,
        is.days_are,
        first_day-next y,
      )

  comes_before_next-year : ComesBeforeNext a b → (y : ℤ) × (f y <ℤ g (y +ℤ pos 1))
  comes_before_next-year (pair, below, h) = let occurs = pair_occurs pair below in
      (occurs.0, omega (arith, ints, pair_entries occurs.0 pair occurs.1, h))

  pub comes_before_next-from : (y : ℤ) → f y <ℤ g (y +ℤ pos 1) → ComesBeforeNext a b
  comes_before_next-from y h = let pair = pair_of y in
      (pair.0, pair.1.below, omega (arith, ints, pair_entries y pair.0 pair.1))

  comes_after_next-year : ComesAfterNext a b → (y : ℤ) × (g (y +ℤ pos 1) <ℤ f y)
  comes_after_next-year (pair, below, h) = let occurs = pair_occurs pair below in
      (occurs.0, omega (arith, ints, pair_entries occurs.0 pair occurs.1, h))

  comes_after_next-from : (y : ℤ) → g (y +ℤ pos 1) <ℤ f y → ComesAfterNext a b
  comes_after_next-from y h = let pair = pair_of y in
      (pair.0, pair.1.below, omega (arith, ints, pair_entries y pair.0 pair.1))

-- the order changes exactly if the tables say so

module _ (f g : ℤ → ℤ) (a b : List ℤ) (ta : IsTableOf f a) (tb : IsTableOf g b) where
  pub inconsistent_by_tables : ChangesOrder a b → IsInconsistent f g
  inconsistent_by_tables (inl (first, last)) =
      let y = comes_first-year f g a b ta tb first in
      let x = comes_first-year g f b a tb ta last in
      let here : y.0 +ℤ pos 0 ≡ y.0 = omega (arith, ints) in
      let there : x.0 +ℤ pos 0 ≡ x.0 = omega (arith, ints) in
      (x.0, y.0, pos 0, (omega (arith, ints, ap g here, y.1), omega (arith, ints, ap g there, x.1)))
  inconsistent_by_tables (inr (inl (before, after))) =
      let y = comes_before_next-year f g a b ta tb before in
      let x = comes_after_next-year f g a b ta tb after in
      (x.0, y.0, pos 1, (y.1, x.1))
  inconsistent_by_tables (inr (inr (before, after))) =
      let x = comes_before_next-year g f b a tb ta before in
      let y = comes_after_next-year g f b a tb ta after in
      let x_back : x.0 +ℤ pos 1 +ℤ negsuc 0 ≡ x.0 = omega (arith, ints) in
      let y_back : y.0 +ℤ pos 1 +ℤ negsuc 0 ≡ y.0 = omega (arith, ints) in (
        x.0 +ℤ pos 1,
        y.0 +ℤ pos 1,
        negsuc 0,
        (
          omega
              (arith, ints, ap g y_back, y.1),
          omega (arith, ints, ap g x_back, x.1),
        ),
      )

  pub consistent_by_tables : IsYearly f → IsYearly g → ¬ ChangesOrder a b → ¬ IsInconsistent f g
  consistent_by_tables yf yg none = consistent_from_near f g yf yg (none_near f g same after before)
    where
      same : (x y : ℤ) → ¬ IsConflict f g x y (pos 0)
      same x y (first, last) =
          let here : y +ℤ pos 0 ≡ y = omega (arith, ints) in
          let there : x +ℤ pos 0 ≡ x = omega (arith, ints) in
          none (inl (
            comes_first-from f g a b ta tb y (rw here at first),
            comes_first-from g f b a tb ta x (rw there at last),
          ))

      after : (x y : ℤ) → ¬ IsConflict f g x y (pos 1)
      after x y (first, last) = none (inr (inl (
        comes_before_next-from f g a b ta tb y first,
        comes_after_next-from f g a b ta tb x last,
      )))

      before : (x y : ℤ) → ¬ IsConflict f g x y (negsuc 0)
      before x y (first, last) =
          let x_next : x +ℤ negsuc 0 +ℤ pos 1 ≡ x = omega (arith, ints) in
          let y_next : y +ℤ negsuc 0 +ℤ pos 1 ≡ y = omega (arith, ints) in
          none (inr (inr (
            comes_before_next-from g f b a tb ta (x +ℤ negsuc 0)
                (omega (arith, ints, last, ap f x_next)),
            comes_after_next-from g f b a tb ta (y +ℤ negsuc 0)
                (omega (arith, ints, first, ap f y_next)),
          )))

-- the check of a rule by the tables of its starts and ends
module _ (r : AlternateTime) (days : AreRuleDays r) (starts ends : List ℤ) (starts_are : starts ≡ start_table r)
    (ends_are : ends ≡ end_table r) where
  pub rule_is_consistent : IsInRuleRange r → ¬ ChangesOrder starts ends → IsConsistentRule r
  rule_is_consistent range none = record {
    in_range = range;
    consistent = consistent_by_tables (start_of r) (end_of r) starts ends
        (IsTableOf-start_of r starts starts_are days.start_is) (IsTableOf-end_of r ends ends_are days.end_is)
        (IsYearly-start_of r range days.start_is) (IsYearly-end_of r range days.end_is) none;
  }

  pub rule_is_inconsistent : ChangesOrder starts ends → IsInconsistent (start_of r) (end_of r)
  rule_is_inconsistent = inconsistent_by_tables (start_of r) (end_of r) starts ends
      (IsTableOf-start_of r starts starts_are days.start_is) (IsTableOf-end_of r ends ends_are days.end_is)
