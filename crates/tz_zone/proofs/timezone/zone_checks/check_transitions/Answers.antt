-- Each transition so far names a type and rises.
use Rattle.tz_zone.proofs.Common.{HasTypeAtIndex, RisesAtIndex, below_more}
use Rattle.tz_zone.proofs.TableChecks.{transitions_from_loop}
use Rattle.tz_zone.proofs.timezone.zone_checks.check_transitions.Goals as goal

pub loop-i-preserved : goal.loop-i-preserved
loop-i-preserved c = below_more (λ index. HasTypeAtIndex c.args.transitions.now c.args.types index
    × RisesAtIndex c.args.transitions.now index) c.loop-i.i c.loop-i.invariant
    (c.if-not-has_type_at.ensures, c.if-not-rises_at.ensures)

pub returns-clause-ok : goal.returns-clause-ok
returns-clause-ok c = transitions_from_loop c.args.transitions.now c.args.types c.loop-i.i c.loop-i-test.false
    c.loop-i.invariant
