-- No byte so far is greater than the greatest.
use Rattle.tz_zone.proofs.Common.{ℕ, ◌<◌, ◌≤◌, slice_index}
use Rattle.tz_zone.proofs.parse.tz_file.are_below.Given as goal

abbrev pub invariant-loop-byte : goal.invariant-loop-byte
invariant-loop-byte l = (i : ℕ) → i < l.byte-index → slice_index l.bytes i ≤ l.greatest
