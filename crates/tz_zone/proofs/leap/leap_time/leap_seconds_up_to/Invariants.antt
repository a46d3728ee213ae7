-- All before the lower index are up to the leap time, and the one at the upper index is later.
use Rattle.tz_zone.proofs.Common.{◌≡◌, ℕ, length, ◌<◌, ◌≤ℤ◌, Some, ◌-◌, ◌≤◌, ◌+◌, LeapSecond, slice_get}
use Rattle.tz_zone.proofs.leap.leap_time.leap_seconds_up_to.Given as goal

abbrev pub invariant-loop-low : goal.invariant-loop-low
invariant-loop-low l = record {
  order : l.low ≤ l.high;
  within : l.high ≤ length l.leap_seconds;
  before : (index : ℕ) → index + 1 ≡ l.low → (x : LeapSecond) × (slice_get l.leap_seconds index ≡ Some x)
      × (x.unix_leap_time ≤ℤ l.unix_leap_time);
  after : l.high < length l.leap_seconds → ¬ ((x : LeapSecond) × (slice_get l.leap_seconds l.high ≡ Some x)
      × (x.unix_leap_time ≤ℤ l.unix_leap_time));
}

abbrev pub decreases-loop-low : goal.decreases-loop-low
decreases-loop-low l = l.high - l.low
