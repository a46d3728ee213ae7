-- The kinds of years determine whether a rule ends in the next year.
use Rattle.tz_rule.proofs.Common.{arith, ◌≡◌, ints, ◌∙◌, refl, ℤ, sym, Bool, end_of, entry, start_of, ◌<ℤ◌, AlternateTime, AreRuleDays, IsInRuleRange, ComesFirst, end_table, start_table, ◌&&◌, EndsNextYear, MatchBool, Decides, ChangesOrder, false≢true, is_inner, rule_of, same_from_decides, Decides-below_or, IsRuleInside, ends_come_first, lt_z, switches_are_inner, ends_first_in}
use Rattle.tz_rule.specs.declared.timezone.alternate_time.AlternateData.TheInside.{Inside}
use Rattle.tz_rule.proofs.OrderByTables.{IsTableOf-start_of, IsTableOf-end_of, comes_first-year, comes_first-from, rule_is_consistent}
use Rattle.tz_rule.proofs.WeakerClauses.{Decides-from_clause, MatchBool-by_test}

Decides-lt_z : (a b : ℤ) → Decides (lt_z a b) (a <ℤ b)
Decides-lt_z a b = (λ e. grind (arith, ints), λ h. grind (arith, ints))

Decides-ends_come_first : (r : AlternateTime) → Decides (ends_come_first r) (ComesFirst (end_table r) (start_table r))
unfolding ends_come_first ends_first_in
Decides-ends_come_first r =
    Decides-below_or (λ k. lt_z (entry (end_table r) k) (entry (start_table r) k))
    (λ k. entry (end_table r) k <ℤ entry (start_table r) k) (ends_first_in r)
    (λ k. Decides-lt_z (entry (end_table r) k) (entry (start_table r) k)) refl (λ _. refl) 14

pub MatchBool-ends_come_first : (r : AlternateTime) → AreRuleDays r
    → MatchBool (ends_come_first r) (EndsNextYear (start_of r) (end_of r)) (¬ EndsNextYear (start_of r) (end_of r))
MatchBool-ends_come_first r days =
    let starts = IsTableOf-start_of r (start_table r) refl days.start_is in
    let ends = IsTableOf-end_of r (end_table r) refl days.end_is in
    MatchBool-by_test (ends_come_first r)
    (λ e. comes_first-year (end_of r) (start_of r) (end_table r) (start_table r) ends starts
    ((Decides-ends_come_first r).0 e))
    (λ e (y, h). false≢true (sym e ∙ (Decides-ends_come_first r).1
    (comes_first-from (end_of r) (start_of r) (end_table r) (start_table r) ends starts y h)))

-- what is found is what is kept
pub ends_come_first-is : (r : AlternateTime) (b : Bool)
    → MatchBool b (ComesFirst (end_table r) (start_table r)) (¬ ComesFirst (end_table r) (start_table r))
    → b ≡ ends_come_first r
ends_come_first-is r b h = same_from_decides b (ends_come_first r) (Decides-from_clause b h) (Decides-ends_come_first r)

-- what passed the check may be kept
pub kept_from : (i : Inside) → IsInRuleRange (rule_of i.parts) → AreRuleDays (rule_of i.parts)
    → i.starts.0 ≡ start_table (rule_of i.parts) → i.ends.0 ≡ end_table (rule_of i.parts)
    → ¬ ChangesOrder i.starts.0 i.ends.0 → MatchBool i.ends_next_year (ComesFirst i.ends.0 i.starts.0)
    (¬ ComesFirst i.ends.0 i.starts.0)
    → i.has_inner_switches ≡ (is_inner i.starts.0 && is_inner i.ends.0) → IsRuleInside i
unfolding switches_are_inner
kept_from i range days starts ends none first inner =
    let r = rule_of i.parts in
    record {
      is_consistent = rule_is_consistent r days i.starts.0 i.ends.0 starts ends range none;
      are_days = days;
      pairing = ends_come_first-is r i.ends_next_year (rw (starts, ends) at first);
      inner_switches = rw (starts, ends) at inner;
      starts_are = IsTableOf-start_of r i.starts.0 starts days.start_is;
      ends_are = IsTableOf-end_of r i.ends.0 ends days.end_is;
      starts_made = starts;
      ends_made = ends;
    }
