-- The bytes are its digits.
use Rattle.tz.proofs.Common.{arith}
use Rattle.tz.proofs.PrintedBytes.{pair_at_position}
use Rattle.tz.proofs.parse.pair_at.Goals as goal

pub returns : goal.returns
returns c tens ones =
    let at = pair_at_position c.args.text.now c.args.position _ c.requires tens ones (omega (arith, tens, ones)) in
    (at.0, at.1, omega (arith, tens, ones))
