-- The bytes are those that were read.
use Rattle.tz_zone.proofs.Common.{Consumes}
use Rattle.tz_zone.proofs.timezone.files.read_to_end.Given as goal

abbrev pub invariant-loop : goal.invariant-loop
invariant-loop g l = Consumes (g.I.Read.remaining l.initial.input) (g.I.Read.remaining l.input) l.bytes.items
