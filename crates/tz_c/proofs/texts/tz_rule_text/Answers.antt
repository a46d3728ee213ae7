-- There is a rule, and no TZ string denotes it.
use Rattle.tz_c.proofs.Common.{refl, inl, subst, Option, TransitionRule, IsRuleTextAnswer}
use Rattle.tz_c.proofs.texts.tz_rule_text.Goals as goal

pub returns-in-None-clause-answer : goal.returns-in-None-clause-answer
returns-in-None-clause-answer c =
    let text = c.args.text.now in
    let some = c.in-Some.ensures in
    subst (λ (o : Option TransitionRule). IsRuleTextAnswer o 6 text text c.args.len.now) some
    (inl (refl, rw c.rule_of.ensures at c.in-None.ensures.none))
