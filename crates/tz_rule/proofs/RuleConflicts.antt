-- The years in which the tables of a rule conflict are those in which its starts and ends do.
use Rattle.tz_rule.proofs.Common.{◌≡◌, ℤ, end_of, start_of, AlternateTime, List, AreRuleDays, IsInRuleRange, end_table, start_table, instant_in, IsConflict, IsInconsistent, IsNear, Option, IfNone, IfSome}
use Rattle.std.proofs.lemmas.Option.{IfSome_then}
use Rattle.tz_rule.proofs.OrderByTables.{IsTableOf-start_of, IsTableOf-end_of}
use Rattle.tz_rule.proofs.WeakerClauses.{IfNone-weaker}
use Rattle.tz_rule.proofs.YearlyInstants.{IsYearly-start_of, IsYearly-end_of, consistent_from_near}
use Rattle.tz_rule.proofs.YearsApart.{conflict_from_tables, conflict_by_tables}

module _ (r : AlternateTime) (days : AreRuleDays r) (starts ends : List ℤ) (starts_are : starts ≡ start_table r)
    (ends_are : ends ≡ end_table r) (found : Option (ℤ × ℤ × ℤ)) where
  pub rule_conflict : IfSome found (λ c. IsConflict (instant_in starts) (instant_in ends) c.0 c.1 c.2)
      → IfSome found (λ c. IsConflict (start_of r) (end_of r) c.0 c.1 c.2)
  rule_conflict some = IfSome_then found some (λ c. conflict_from_tables (start_of r) (end_of r) starts ends
      (IsTableOf-start_of r starts starts_are days.start_is) (IsTableOf-end_of r ends ends_are days.end_is) c.0 c.1 c.2)

  consistent_by_years : ((k : ℤ) → IsNear k → (x y : ℤ) → ¬ IsConflict (instant_in starts) (instant_in ends) x y k)
      → IsInRuleRange r → ¬ IsInconsistent (start_of r) (end_of r)
  consistent_by_years none range =
      consistent_from_near (start_of r) (end_of r) (IsYearly-start_of r range days.start_is)
      (IsYearly-end_of r range days.end_is)
      (λ k near x y c. none k near x y (conflict_by_tables (start_of r) (end_of r) starts ends
      (IsTableOf-start_of r starts starts_are days.start_is) (IsTableOf-end_of r ends ends_are days.end_is) x y k
      c))

  pub no_rule_conflict : IfNone found ((k : ℤ) → IsNear k → (x y : ℤ)
      → ¬ IsConflict (instant_in starts) (instant_in ends) x y k)
      → IfNone found (¬ (IsInRuleRange r × IsInconsistent (start_of r) (end_of r)))
  no_rule_conflict = IfNone-weaker found (λ none (range, inconsistent). consistent_by_years none range inconsistent)
