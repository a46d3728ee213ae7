-- Each item counts, and the first that is none ends the walk.
use Rattle.std.proofs.Common.{sym}
use Rattle.tz_format.proofs.Measured.{byte_measured, conversion_measured, unknown_found, all_measured}
use Rattle.tz_format.proofs.pattern.measure.Goals as goal

pub returns-in_default-clause-err : goal.returns-in_default-clause-err
returns-in_default-clause-err c =
    unknown_found _ _ _ c.loop-position.invariant c.loop-position-test.true c.if-pattern-position-eq37.true
    (cc (c.conversion_at.ensures.value, c.in_default.is))

pub returns-clause-known : goal.returns-clause-known
returns-clause-known c = (all_measured _ _ _ c.loop-position.invariant c.loop-position-test.false).0

pub returns-clause-width : goal.returns-clause-width
returns-clause-width c = (all_measured _ _ _ c.loop-position.invariant c.loop-position-test.false).1

pub loop-position-preserved-then-pattern-position-eq37 : goal.loop-position-preserved-then-pattern-position-eq37
loop-position-preserved-then-pattern-position-eq37 c =
    rw (c.widened-width.ensures, c.width_of.ensures.value) (conversion_measured _ _ _ _ c.in-Some.spelled
    c.loop-position.invariant c.loop-position-test.true c.if-pattern-position-eq37.true
    (sym c.in-Some.ensures.value) c.in-Some.ensures.within.1)

pub loop-position-preserved : goal.loop-position-preserved
loop-position-preserved c =
    rw c.widened-width-else-pattern-position-eq37.ensures (byte_measured _ _ _ c.loop-position.invariant
    c.loop-position-test.true c.if-pattern-position-eq37.false)
