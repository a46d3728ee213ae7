-- The indicators of the types so far go together.
use Rattle.tz_zone.proofs.Common.{ℕ, ◌<◌, block_view, HasIndicators}
use Rattle.tz_zone.proofs.parse.tz_file.check_indicators.Given as goal

abbrev pub invariant-loop-i : goal.invariant-loop-i
invariant-loop-i l = (i : ℕ) → i < l.i → HasIndicators (block_view l.unit.block) i
