-- A `&` to no rule, in plain types, holds what one to no rule does. Assumes `Logic`.
use Rattle.tz_rule.proofs.Common.{None, id⊢}
use Rattle.std.specs.contracts.option.Option as Option
use Rattle.tz_rule.specs.contracts.timezone.transition_rule.TransitionRule as TransitionRule
use Rattle.tz_rule.specs.contracts.timezone.utc_statics.RuleFields as RuleFields
use Rattle.tz_rule.proofs.Casts.{cast_Meets}
use Rattle.tz_rule.proofs.timezone.utc_statics.no_rule_of.Statement.{statement}
use Rattle.tz_rule.proofs.timezone.utc_statics.no_rule_of.Symbol.{name}
use Rattle.tz_rule.proofs.timezone.utc_statics.no_rule_of.Code as code

pub no_rule_of_spec : {M : Type 1} → statement M
no_rule_of_spec 𝓤 𝓛 𝓜 𝓡 wired =
    cast_Meets (Option.the_row RuleFields.the_row) (Option.the_row TransitionRule.the_row) 𝓛 𝓜 𝓡 None None name
    (code.unfolded 𝓤 𝓛.H 𝓜 𝓡 wired) (λ κ b o. id⊢ 𝓤 _)
