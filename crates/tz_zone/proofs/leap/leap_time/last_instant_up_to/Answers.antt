-- Up to an instant that all tables reach none is past it.
use Rattle.tz_zone.proofs.Common.{arith, ints}
use Rattle.tz_zone.proofs.LeapTimes.{not_past_within}
use Rattle.tz_zone.proofs.leap.leap_time.last_instant_up_to.Goals as goal

pub returns-then-high-le-ALWAYS_DEFINED_UP_TO-clause-within :
    goal.returns-then-high-le-ALWAYS_DEFINED_UP_TO-clause-within
returns-then-high-le-ALWAYS_DEFINED_UP_TO-clause-within c =
    λ u up_to. not_past_within c.args.leap_seconds.now c.requires u
    (omega (arith, ints, up_to, c.if-high-le-ALWAYS_DEFINED_UP_TO.true))
