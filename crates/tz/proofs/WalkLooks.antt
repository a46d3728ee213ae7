-- A walk along a clock looks at each transition that takes effect in the window, and at one more at most.
use Rattle.tz.proofs.Common.{arith, ◌-◌, refl, ◌≡◌, ints, inr, inl, [], ℕ, ◌<◌, List, length, ◌+◌, pos, ℤ, Some, Zone, ◌≤◌, suc, ◌-ℤ◌, zero, ◌+ℤ◌, ◌<ℤ◌, ◌^◌, ◌≤ℤ◌, None, Option, negsuc, ◌⊎◌, get_or, ◌≢◌, Err, Ok, by_lt_z, IsInstant-from_bounds, AreLeapSeconds, AtMostTakeEffectIn, IfSome, IsStage, OnOk, TakesEffectIn, first_looks, instant_bounds, slice_get, slice_get-get_or, IsSoundTable, LeapSecond, leap_time_mono}
use Rattle.std.proofs.Common.{Result}
use Rattle.tz_zone.specs.LeapTime.{IsInstant, IsLeapTime, IsTimeReached, IsEffect}
use Rattle.tz_zone.specs.ClockSegments.{from_start}
use Rattle.tz_zone.specs.declared.clock.window_types.Stage.{Stage}
use Rattle.tz_zone.specs.Looks.{list_of, looks_of, IsAfterLooks, IsAfterSearch}
use Rattle.tz_zone.specs.declared.table.transition_view.TransitionView.{TransitionView}
use Rattle.tz_zone.proofs.AfterLooks.{looks_and_looks, looks_up_to}
use Rattle.tz_zone.proofs.PositionRuns.{some_transitions}
use Rattle.tz_zone.proofs.InstantsWithLeapTime.{defined_between, leap_time_low, leap_unless_refused}
use Rattle.tz.proofs.ReadingWindows.{as_many_as_passed}

module _ (leaps : List LeapSecond) (are : AreLeapSeconds leaps) (v : ℤ) where
  -- a leap time that is ahead at one instant is reached after that, if at all
  reached_after : (u l at : ℤ) → IsLeapTime leaps u l → l <ℤ v → IsTimeReached leaps v at → u <ℤ at
  reached_after u l at leap ahead reached = by_lt_z u at (λ h. h)
      (λ h. absurd (omega
      (arith, ints, ahead, reached.2, leap_time_mono leaps are at u reached.0 l h reached.1 leap)))

  -- and takes effect after it, and not after an instant at which it is reached
  module _ (first l : ℤ) (fits : IsInstant first) (leap : IsLeapTime leaps first l) (ahead : l <ℤ v) where
    effect_within : (n : ℕ) (at : ℤ) → at ≡ first +ℤ pos n → at ≤ℤ pos 9223372036854775807
        → IsTimeReached leaps v at → (u : ℤ) × IsEffect leaps v u × (first ≤ℤ u) × (u ≤ℤ at)
    effect_within zero at is high reached =
        absurd (omega (arith, ints, is, reached_after first l at leap ahead reached))
    effect_within (suc n) at is high reached =
        let earlier : first +ℤ pos n ≡ at -ℤ pos 1 = omega (arith, ints, is) in
        let here = leap_unless_refused leaps are (first +ℤ pos n)
        (defined_between leaps are first at (first +ℤ pos n) leap.not_refused reached.1.not_refused
        (omega (arith, ints)) (omega (arith, ints, is))) in
        by_lt_z here.0 v
        (λ before. (
          at,
          record {
            not_least = λ e. absurd (omega (arith, ints, e, ahead, leap_time_low leaps are first l fits leap));
            instant = IsInstant-from_bounds at (omega (arith, ints, is, (instant_bounds first fits).0)) high;
            reached = reached;
            least = λ w there.
                omega (arith, ints, earlier, reached_after (first +ℤ pos n) here.0 w here.1 before there);
          },
          omega (arith, ints, is),
          omega (arith, ints),
        ))
        (λ from. let found = effect_within n (first +ℤ pos n) refl (omega (arith, ints, earlier, high))
        (here.0, here.1, from) in
        (found.0, found.1, found.2, omega (arith, ints, found.3, earlier)))

    distance : (a b : ℤ) → a ≤ℤ b → (n : ℕ) × (b ≡ a +ℤ pos n)
    distance a b order = by_sign (b -ℤ a) refl
      where
        by_sign : (d : ℤ) → b -ℤ a ≡ d → (n : ℕ) × (b ≡ a +ℤ pos n)
        by_sign (pos n) e = (n, omega (arith, ints, e))
        by_sign (negsuc n) e = absurd (omega (arith, ints, e, order))

    pub takes_effect : (at : ℤ) → at ≤ℤ pos 9223372036854775807 → IsTimeReached leaps v at
        → (u : ℤ) × IsEffect leaps v u × (first ≤ℤ u) × (u ≤ℤ at)
    takes_effect at high reached =
        let after = reached_after first l at leap ahead reached in
        let (n, is) = distance first at (omega (arith, ints, after)) in
        effect_within n at is high reached

-- the looks of a walk, by the position at which it began and that to which it has come
pub record AreLooks (z : Zone) (low high : ℤ) (start : ℕ) (before after : TransitionView) (position : ℕ) : Type 0 where
  pub taken : IsAfterLooks before after (position - start)
  pub onward : start ≤ position
  pub within : position ≤ length z.transitions
  pub few : (w : ℕ) → AtMostTakeEffectIn z low high w → position ≤ start + (w + 1)

-- all transitions that a walk has passed take effect in the window, and the next one may take effect after it
module _ (z : Zone) (sound : IsSoundTable z) (low high : ℤ) (reach : high ≤ℤ pos 80000000000000000) (first : ℤ)
    (from : low ≤ℤ first) (start : Stage) (begin : IsStage z first first start)
    (since : ℤ) (stage : Stage) (is : IsStage z first since stage) (up_to : since ≤ℤ high) where
  passed_take_effect : (i : ℕ) → start.position ≤ i → i < stage.position → TakesEffectIn z low high i
  passed_take_effect i above below =
      let change = get_or z.transitions i from_start in
      let at_i : slice_get z.transitions i ≡ Some change =
      slice_get-get_or z.transitions i from_start (omega (arith, below, is.within)) in
      let some : z.transitions ≢ [] = some_transitions z.transitions i (omega (arith, below, is.within)) in
      let here = begin.ahead some in
      let there = is.reached some in
      let found = takes_effect z.leap_seconds sound.leap_seconds_are change.unix_leap_time first here.0 begin.instant
      here.1 (here.2 i change above at_i) since (omega (arith, ints, up_to, reach))
      (there.0, there.1, there.2 i change below at_i) in
      (change, found.0, at_i, found.1, omega (arith, ints, from, found.2), omega (arith, ints, found.3, up_to))

  pub looks_on : {A : Type 0} {before after next : TransitionView} (position : ℕ)
      → AreLooks z low high start.position before after stage.position
      → IsAfterLooks after next (position - stage.position)
      → ((position ≡ stage.position) × A) ⊎ (position ≡ stage.position + 1) → position ≤ length z.transitions
      → AreLooks z low high start.position before next position
  looks_on position are taken onward within =
      let more : (stage.position ≤ position) × (position ≤ stage.position + 1) = elim onward [
        | inl same ↦ (omega (arith, same.0), omega (arith, same.0))
        | inr one ↦ (omega (arith, one), omega (arith, one))
      ] in
      let passed = as_many_as_passed z low high in
      record {
        taken = looks_up_to (looks_and_looks are.taken taken) (omega (arith, are.onward, more.0));
        onward = omega (arith, are.onward, more.0);
        within = within;
        few = λ w most.
            omega (arith, more.1, passed w most start.position stage.position are.onward passed_take_effect);
      }

-- with those that it took to begin
pub looks_in_all : (old before : TransitionView) (position : Option ℕ) (looks b w : ℕ) → length (list_of old) < 2 ^ b
    → IfSome position (λ k. IsAfterLooks old before 1) → IsAfterSearch old before 2 → looks ≤ looks_of before + (w + 1)
    → looks ≤ looks_of old + (first_looks position b + w)
looks_in_all old before None looks b w bits known few more = omega (arith, few.at_most b bits, more)
looks_in_all old before (Some k) looks b w bits known few more = omega (arith, known.at_most, more)

-- what two facts of a success show
pub on_ok_both : {T E P Q R : Type 0} (r : Result T E) → (P → Q → R) → OnOk r P → OnOk r Q → OnOk r R
on_ok_both (Ok x) both p q = both p q
on_ok_both (Err e) both p q = tt
