-- `Z`, or the sign and the size.
use Rattle.tz.proofs.Common.{arith, ints}
use Rattle.tz.proofs.PrintedBytes.{offset_ahead, offset_behind, offset_of_utc}
use Rattle.tz.proofs.parse.offset_at_end.Goals as goal

pub returns-then-text-eq90-clause-text : goal.returns-then-text-eq90-clause-text
returns-then-text-eq90-clause-text c = offset_of_utc c.args.text.now c.if-text-eq30.true c.if-text-eq90.true

pub returns-in-43-clause-text : goal.returns-in-43-clause-text
returns-in-43-clause-text c =
    offset_ahead c.args.text.now c.in_ok-hours.hours c.in_ok-minutes.minutes _ c.if-text-ne35.false
    c.in_ok-hours.ensures.0 c.if-minutes-gt59.false c.in_ok-hours.ensures.1 c.if-text-ne58.false
    c.in_ok-minutes.ensures.1 c.in-43.is
    (omega (arith, c.if-seconds-eq0.false, c.from.ensures, c.from-2.ensures))
    (omega (arith, ints, c.from.ensures, c.from-2.ensures, c.in_ok-hours.ensures.0, c.if-minutes-gt59.false))

pub returns-in-45-clause-text : goal.returns-in-45-clause-text
returns-in-45-clause-text c =
    offset_behind c.args.text.now c.in_ok-hours.hours c.in_ok-minutes.minutes _ c.if-text-ne35.false
    c.in_ok-hours.ensures.0 c.if-minutes-gt59.false c.in_ok-hours.ensures.1 c.if-text-ne58.false
    c.in_ok-minutes.ensures.1 c.in-45.is
    (omega (arith, c.if-seconds-eq0.false, c.from.ensures, c.from-2.ensures))
    (omega (arith, ints, c.from.ensures, c.from-2.ensures, c.in_ok-hours.ensures.0, c.if-minutes-gt59.false))
