-- The transitions so far rise, if the answer is yes, and the last of them is kept.
use Rattle.tz_zone.proofs.Common.{ℕ, ◌≡◌, ◌<◌, Some, slice_get, true, RisesAtIndex}
use Rattle.tz_zone.proofs.parse.tz_file.all_rise.Given as goal

abbrev pub invariant-loop-next : goal.invariant-loop-next
invariant-loop-next l = record {
  last : slice_get l.transitions l.next-index ≡ Some l.last;
  rise : l.rise ≡ true → (index : ℕ) → index < l.next-index → RisesAtIndex l.transitions index;
}
