-- The minutes are these alone.
use Rattle.tz.proofs.Common.{arith}
use Rattle.tz.proofs.TextFronts.{pair_unique}
use Rattle.tz.proofs.parse.read_minutes.Goals as goal

pub returns-then-hours-from-gt2147483647 : goal.returns-then-hours-from-gt2147483647
returns-then-hours-from-gt2147483647 c minutes rest is =
    omega (
      arith,
      (pair_unique rest c.in_ok-minutes.rest.now is.0
          c.in_ok-minutes.ensures).0,
      is.1,
      c.if-hours-from-gt2147483647.true,
      c.from.ensures,
    )
