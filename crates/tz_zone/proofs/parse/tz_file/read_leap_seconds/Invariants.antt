-- The leap seconds of the records so far.
use Rattle.tz_zone.proofs.Common.{◌≡◌, block_view, leaps_of, width_of}
use Rattle.tz_zone.proofs.parse.tz_file.read_leap_seconds.Given as goal

abbrev pub invariant-loop-i : goal.invariant-loop-i
invariant-loop-i g l = l.leap_seconds.items ≡ leaps_of (width_of l.unit.size) (block_view l.unit.block) l.i
