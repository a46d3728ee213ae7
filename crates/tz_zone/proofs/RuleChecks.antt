-- What the extra rule answers at the last transition decides whether the zone is consistent.
use Rattle.tz_zone.proofs.Common.{◌≡◌, sym, ℤ, ◌∙◌, ap, List, Some, LocalTimeType, Zone, LeapSecond, ◌≢◌, false, same_Some, true, TransitionRule, Transition, false≢true, IsTypeAt, IsRuleType, Decides-same_type, HasBegunAt, IsEffect, IsLast, rule_type_unique, IsRuleTypeAt, RuleAgrees, RuleAnswers, same_type}
use Rattle.tz_zone.proofs.LeapTimes.{one_effect}

pub no_rule_type_at : (leaps : List LeapSecond) (rule : TransitionRule) (v u : ℤ) → IsEffect leaps v u
    → ((t : LocalTimeType) → ¬ IsRuleType rule u t) → (t : LocalTimeType) → ¬ IsRuleTypeAt leaps rule v t
no_rule_type_at leaps rule v u effect none t (w, effect', type) =
    none t (rw (one_effect leaps v w u effect' effect) at type)

pub rule_type_at_unique : (leaps : List LeapSecond) (rule : TransitionRule) (v : ℤ) (t t' : LocalTimeType)
    → IsRuleTypeAt leaps rule v t → IsRuleTypeAt leaps rule v t' → t ≡ t'
rule_type_at_unique leaps rule v t t' (u, effect, type) (u', effect', type') =
    rule_type_unique rule u t t' type (rw (one_effect leaps v u' u effect' effect) at type')

module _ (z : Zone) (rule : TransitionRule) (last : Transition) (is_rule : z.extra_rule ≡ Some rule)
    (is_last : IsLast z.transitions last) where
  same_rule : (rule' : TransitionRule) → z.extra_rule ≡ Some rule' → rule ≡ rule'
  same_rule rule' e = same_Some rule rule' (sym is_rule ∙ e)

  same_last : (last' : Transition) → IsLast z.transitions last' → last ≡ last'
  same_last last' e = same_Some last last' (sym is_last ∙ e)

  pub not_answers : HasBegunAt z.leap_seconds last.unix_leap_time
      → ((t : LocalTimeType) → ¬ IsRuleTypeAt z.leap_seconds rule last.unix_leap_time t) → ¬ RuleAnswers z
  not_answers begun none answers =
      let answer = answers rule last is_rule is_last begun in
      none answer.0 answer.1

  pub answers_at : (t : LocalTimeType) → IsRuleTypeAt z.leap_seconds rule last.unix_leap_time t → RuleAnswers z
  answers_at t type rule' last' e e' begun = rw (sym (same_rule rule' e)) (rw (sym (same_last last' e')) (t, type))

  pub agrees_at : (t : LocalTimeType) → IsRuleTypeAt z.leap_seconds rule last.unix_leap_time t
      → IsTypeAt z last.type_index t → RuleAgrees z
  agrees_at t type at rule' last' e e' begun t' type' =
      let with_last = rw (sym (ap (λ l. l.unix_leap_time) (same_last last' e'))) at (rw
      (sym (same_rule rule' e)) at type') in
      rw (ap (λ l. l.type_index) (sym (same_last last' e')))
      (rw (sym (rule_type_at_unique z.leap_seconds rule last.unix_leap_time t t' type with_last)) at)

  pub not_agrees : HasBegunAt z.leap_seconds last.unix_leap_time → (t t' : LocalTimeType)
      → IsRuleTypeAt z.leap_seconds rule last.unix_leap_time t → IsTypeAt z last.type_index t' → t ≢ t' → ¬ RuleAgrees z
  not_agrees begun t t' type at other agrees =
      other (same_Some t t' (sym (agrees rule last is_rule is_last begun t type) ∙ at))

-- what a test of two types has told
pub same_from_test : (t t' : LocalTimeType) → true ≡ same_type t t' → t ≡ t'
same_from_test t t' e = (Decides-same_type t t').0 (sym e)

pub other_from_test : (t t' : LocalTimeType) → false ≡ same_type t t' → t ≢ t'
other_from_test t t' e p = false≢true (e ∙ (Decides-same_type t t').1 p)
