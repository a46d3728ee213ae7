-- The end offsets are those of the parts.
use Rattle.tz_c.proofs.Common.{refl, inl, inr, rules, subst, SFits, to_z-of_z, Zone, w32, AreEndOffsets}
use Rattle.tz_c.proofs.zones.tz_zone_check.Goals as goal

pub returns-in-Ok-clause-answer : goal.returns-in-Ok-clause-answer
returns-in-Ok-clause-answer c =
    let ends = c.offsets-least in
    let fits_least : SFits w32 ends.result.0 = search rules in
    let fits_greatest : SFits w32 ends.result.1 = search rules in
    let valid = rw c.rule_of_lists.ensures at c.in-Ok.ensures.ok in
    let lent = subst (λ (z : Zone). AreEndOffsets z ends.result.0 ends.result.1) c.in-Ok.ensures.parts ends.ensures in
    let are = rw c.rule_of_lists.ensures at lent in
    rw (to_z-of_z w32 ends.result.0 fits_least, to_z-of_z w32 ends.result.1 fits_greatest)
    (inl (refl, (valid, are)))

pub returns-in-Err-clause-answer : goal.returns-in-Err-clause-answer
returns-in-Err-clause-answer c =
    let fault = rw c.rule_of_lists.ensures at c.in-Err.ensures.err in
    inr (c.in-Err.error, c.code_of.ensures, fault)
