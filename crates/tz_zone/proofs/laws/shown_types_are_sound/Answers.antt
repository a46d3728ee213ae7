-- The clock shows types of the list and of the rule alone.
use Rattle.tz_zone.proofs.Common.{◌≡◌, ℕ, sym, ℤ, ◌∙◌, subst, List, Some, LocalTimeType, slice_get, same_Some, TransitionRule, FitsSigned, IsRuleType, IsLocalTimeType, zone_of}
use Rattle.std.specs.Int.{w32}
use Rattle.tz_zone.proofs.ShownTypes.{of_shown_type}
use Rattle.tz_zone.proofs.laws.shown_types_are_sound.Goals as goal

abbrev IsSound : LocalTimeType → Type 0
IsSound t = IsLocalTimeType t × FitsSigned w32 t.ut_offset

abbrev AreSound : List LocalTimeType → Type 0
AreSound types = (i : ℕ) (t : LocalTimeType) → slice_get types i ≡ Some t → IsSound t

abbrev IsSoundRule : TransitionRule → Type 0
IsSoundRule rule = (u : ℤ) (t : LocalTimeType) → IsRuleType rule u t → IsSound t

pub returns-in-Some : goal.returns-in-Some
returns-in-Some c =
    let sound = of_shown_type IsSound (zone_of c.args.zone.now)
    (subst AreSound c.local_time_types.ensures c.listed_types_are_sound.ensures)
    (λ other is. subst IsSoundRule (same_Some c.in-Some.rule other (sym c.in-Some.is ∙ c.extra_rule.ensures ∙ is))
    c.rule_types_are_sound.ensures) in
    record { sound = λ u t clock. (sound u t clock).0; fits = λ u t clock. (sound u t clock).1 }

pub returns-in_default : goal.returns-in_default
returns-in_default c =
    let types = subst AreSound c.local_time_types.ensures c.listed_types_are_sound.ensures in
    let sound = of_shown_type IsSound (zone_of c.args.zone.now) types
    (λ rule is. absurd (c.in_default.not-Some rule (c.extra_rule.ensures ∙ is))) in
    record { sound = λ u t clock. (sound u t clock).0; fits = λ u t clock. (sound u t clock).1 }
