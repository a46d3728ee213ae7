-- The leap seconds are a table when the first may come first and each next one may follow.
use Rattle.tz_zone.proofs.Common.{arith, FollowsAt, below_more}
use Rattle.tz_zone.proofs.TableChecks.{are_from_loop}
use Rattle.tz_zone.proofs.leap.table_checks.are_leap_seconds.Goals as goal

pub loop-i-preserved : goal.loop-i-preserved
loop-i-preserved c = below_more (FollowsAt c.args.leap_seconds.now) c.loop-i.i c.loop-i.invariant
    c.if-not-follows_at.ensures

pub returns : goal.returns
returns c = are_from_loop c.args.leap_seconds.now c.loop-i.i c.index-leap_seconds-0.result
    (search arith) c.index-leap_seconds-0.is c.if-not-may_be_first.ensures c.loop-i-test.false c.loop-i.invariant

pub returns-then-not-follows_at : goal.returns-then-not-follows_at
returns-then-not-follows_at c = λ are. c.if-not-follows_at.ensures (are.apart c.loop-i.i)
