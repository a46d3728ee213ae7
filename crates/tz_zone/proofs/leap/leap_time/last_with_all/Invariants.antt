-- The last instant that the leap seconds so far leave.
use Rattle.tz_zone.proofs.Common.{ℕ, ℤ, ◌<◌, ◌≤ℤ◌, ◌<ℤ◌, ◌+ℤ◌, LeapSecond, IsInstant, IsPastInstants, IsReached}
use Rattle.tz_zone.proofs.leap.leap_time.last_with_all.Given as goal

abbrev pub invariant-loop-index : goal.invariant-loop-index
invariant-loop-index l = record {
  up_to : l.last ≤ℤ l.high;
  within : (i : ℕ) (x : LeapSecond) (u : ℤ) → i < l.index → u ≤ℤ l.last → IsReached l.leap_seconds i x u
      → IsInstant (u +ℤ x.correction);
  past : (u : ℤ) → l.last <ℤ u → u ≤ℤ l.high → IsPastInstants l.leap_seconds u;
}
