-- What the clauses of the counts give for a leap time.
use Rattle.tz_zone.proofs.Common.{arith, ints, inr, inl, ℤ, List, ◌≤ℤ◌, negsuc, LeapSecond, ◌≢◌, AreLeapSeconds, IsWideEffect, IsInstant, IsLeapTimeRefused, IsEffect, IsEffectRefused, MatchBool-by_test}
use Rattle.std.specs.Prelude.{MatchBool}
use lib.Signed.{le_z}
use Rattle.tz_zone.proofs.LeapTimes.{IsInstant-from_bounds, instant_bounds, past_later}

-- what a comparison decides
pub by_comparison : (a b : ℤ) (P : Type 0) → (a ≤ℤ b → P) → (P → a ≤ℤ b) → MatchBool (le_z a b) P (¬ P)
by_comparison a b P f g = MatchBool-by_test (le_z a b) (λ e. f (grind (arith, ints))) (λ e p. let order = g p in
    grind (arith, ints))

-- where the wide effect of a leap time is no instant, it has no effect
pub effect_none : (leaps : List LeapSecond) (v m : ℤ) → IsWideEffect leaps v m → ¬ IsInstant m → IsEffectRefused leaps v
effect_none leaps v m wide outside u effect =
    outside (IsInstant-from_bounds m wide.low
    (omega (arith, ints, wide.least u effect.reached, instant_bounds u effect.instant)))

-- where it has no leap time either
pub effect_refused : (leaps : List LeapSecond) → AreLeapSeconds leaps → (v m : ℤ) → IsWideEffect leaps v m
    → IsLeapTimeRefused leaps m → IsEffectRefused leaps v
effect_refused leaps are v m wide (inl before) u effect = absurd (wide.begun before)
effect_refused leaps are v m wide (inr past) u effect =
    effect.reached.1.not_refused (inr (past_later leaps are m u (wide.least u effect.reached) past))

-- and otherwise it is the effect
pub effect_found : (leaps : List LeapSecond) (v m : ℤ) → v ≢ negsuc 9223372036854775807 → IsWideEffect leaps v m
    → IsInstant m → ¬ IsLeapTimeRefused leaps m → IsEffect leaps v m
effect_found leaps v m high wide instant defined = record {
  not_least = high;
  instant = instant;
  reached = wide.reached defined;
  least = wide.least;
}
