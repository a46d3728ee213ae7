-- The faults are those of the zone that C passes.
use Rattle.tz_c.proofs.Common.{inr, subst, zone_of_data, Option, Disambiguation, IsChoiceAnswer}
use Rattle.tz_c.proofs.searches.tz_find_one.Goals as goal

pub returns-in-Err-clause-answer : goal.returns-in-Err-clause-answer
returns-in-Err-clause-answer c =
    subst (λ (o : Option Disambiguation). IsChoiceAnswer (zone_of_data c.args.zone.now) o c.args.fields.now
    c.code_of.result c.args.out.now) c.in-Some.ensures
    (inr (inr (c.in-Err.error, c.code_of.ensures, rw c.as_zone_data.ensures at c.in-Err.ensures.err)))
