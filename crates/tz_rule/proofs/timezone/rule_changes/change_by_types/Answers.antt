-- Between two types that are the same there is no change.
use Rattle.tz_rule.proofs.Common.{pos, ◌∙◌, ℤ, sym, ◌-ℤ◌, IsRuleType, subst, Decides-same_type}
use Rattle.tz_rule.proofs.RuleTypes.{rule_type_unique}
use Rattle.tz_rule.proofs.timezone.rule_changes.change_by_types.Goals as goal

pub returns-then-is_same : goal.returns-then-is_same
returns-then-is_same c = λ rule low before after change at is.
    let u = c.args.unix_time in
    let a = c.in-Some-Some.before in
    let b = c.in-Some-Some.after in
    let same = (Decides-same_type a.now b.now).0 (sym c.is_same.ensures ∙ c.if-is_same.true) in
    is.differ (rule_type_unique rule (u -ℤ pos 1) change.before a.now
    (subst (λ (v : ℤ). IsRuleType rule (v -ℤ pos 1) change.before) at is.before_is)
    (rw c.in-Some-Some.is-0 at before) ∙ same
    ∙ sym (rule_type_unique rule u change.after b.now (subst (λ (v : ℤ). IsRuleType rule v change.after) at is.after_is)
    (rw c.in-Some-Some.is-1 at after)))
