-- Each item is read, and the first that is not ends the walk.
use Rattle.std.proofs.Common.{sym, ◌∙◌}
use Rattle.tz_format.proofs.Guessed.{byte_read, none_read, none_holds, unread, conversion_read, all_read, not_whole}
use Rattle.tz_format.proofs.read.read_parts.Goals as goal

pub returns-in_err-conversion-clause-none : goal.returns-in_err-conversion-clause-none
returns-in_err-conversion-clause-none c =
    absurd (none_read _ _ _ _ _ _ c.loop-position.invariant c.loop-position-test.true c.if-byte-eq37.true
    (cc (c.conversion_at.ensures.value, c.in_err-conversion.is, c.in_err-conversion.was, c.branch-conversion.ensures)))

pub returns-in_err-width-clause-none : goal.returns-in_err-width-clause-none
returns-in_err-width-clause-none c = none_holds _ (
    unread _ _ _ _ _ _ c.in_ok-conversion.conversion c.in_ok-conversion.spelled c.loop-position.invariant
    c.loop-position-test.true c.if-byte-eq37.true (sym c.in_ok-conversion.ensures.value) c.in_err-width.ensures.none)

pub loop-position-preserved-then-byte-eq37 : goal.loop-position-preserved-then-byte-eq37
loop-position-preserved-then-byte-eq37 c =
    rw (
      c.skip-left.ensures,
      c.in_ok-width.ensures.some.1,
      c.read_conversion.ensures.values,
      c.read_conversion.ensures.shown,
    ) (conversion_read _ _ _ _ _ _ c.in_ok-conversion.conversion c.in_ok-conversion.spelled c.loop-position.invariant
    c.loop-position-test.true c.if-byte-eq37.true (sym c.in_ok-conversion.ensures.value)
    c.in_ok-conversion.ensures.within.1 c.in_ok-width.ensures.some.0)

pub loop-position-preserved : goal.loop-position-preserved
loop-position-preserved c =
    rw c.skip-left-else-byte-eq37.ensures (byte_read _ _ _ _ _ _ c.loop-position.invariant
    c.loop-position-test.true c.if-byte-eq37.false)

pub returns-then-is_whole-clause-some : goal.returns-then-is_whole-clause-some
returns-then-is_whole-clause-some c =
    all_read _ _ _ _ _ _ c.loop-position.invariant c.loop-position-test.false
    (sym c.is_whole.ensures ∙ c.if-is_whole.true)

pub returns-else-is_whole-clause-none : goal.returns-else-is_whole-clause-none
returns-else-is_whole-clause-none c =
    not_whole _ _ _ _ _ _ c.loop-position.invariant c.loop-position-test.false
    (sym c.is_whole.ensures ∙ c.if-is_whole.false)
