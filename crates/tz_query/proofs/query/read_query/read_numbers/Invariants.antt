use Rattle.tz_query.proofs.Common.{◌≡◌, length, take, ArePartsFront}
use Rattle.tz_query.proofs.query.read_query.read_numbers.Given as goal

abbrev pub invariant-loop-position : goal.invariant-loop-position
invariant-loop-position g l = (length l.numbers ≡ g.row.N) × ArePartsFront l.bytes (take l.position l.numbers) l.rest
