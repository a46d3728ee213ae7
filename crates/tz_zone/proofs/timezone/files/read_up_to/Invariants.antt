-- The bytes are those that were read, and no more than the limit.
use Rattle.tz_zone.proofs.Common.{length, ◌≤◌, Consumes}
use Rattle.tz_zone.proofs.timezone.files.read_up_to.Given as goal

abbrev pub invariant-loop : goal.invariant-loop
invariant-loop g l = Consumes (g.I.Read.remaining l.initial.input) (g.I.Read.remaining l.input) l.bytes.items
    × (length l.bytes.items ≤ l.limit)
