-- Where there is no change, and a segment as contracts see it.
use Rattle.tz_zone.proofs.Common.{◌≡◌, arith, ints, sym, ℤ, ◌∙◌, subst, Some, pos, ◌-ℤ◌, LocalTimeType, Zone, Option, None, IsClock, MatchOption, Change, none-some, Bor, IsChange, HasNoType, option_copied, MatchOption-at_none, HasTypeOrNone, IsSegmentAt, IsTrueSegment}
use Rattle.tz_zone.specs.declared.clock.segment.Segment.{Segment}
use Rattle.tz_zone.proofs.Clocks.{one_type}

module _ (z : Zone) where
  -- no change without a type before, or without one after
  pub no_change_from_none : (u : ℤ) (before : Option (Bor LocalTimeType)) → before ≡ None
      → MatchOption before (HasNoType z (u -ℤ pos 1)) (λ t. IsClock z (u -ℤ pos 1) t.now) → (c : Change)
      → c.unix_time ≡ u → ¬ IsChange z c
  no_change_from_none u before none holds c at change =
      MatchOption-at_none _ _ none holds c.before
      (subst (λ (v : ℤ). IsClock z (v -ℤ pos 1) c.before) at change.before_is)

  pub no_change_to_none : (u : ℤ) (after : Option (Bor LocalTimeType)) → after ≡ None
      → MatchOption after (HasNoType z u) (λ t. IsClock z u t.now) → (c : Change) → c.unix_time ≡ u → ¬ IsChange z c
  no_change_to_none u after none holds c at change =
      MatchOption-at_none _ _ none holds c.after (subst (λ (v : ℤ). IsClock z v c.after) at change.after_is)

  -- nor where both are the same
  pub no_change_of_same : (u : ℤ) (a b : LocalTimeType) → a ≡ b → IsClock z (u -ℤ pos 1) a → IsClock z u b
      → (c : Change) → c.unix_time ≡ u → ¬ IsChange z c
  no_change_of_same u a b same before after c at change =
      let before_is = subst (λ (v : ℤ). IsClock z (v -ℤ pos 1) c.before) at change.before_is in
      change.differ (one_type z (u -ℤ pos 1) c.before a before_is before ∙ same ∙ one_type z u b c.after after
      (subst (λ (v : ℤ). IsClock z v c.after) at change.after_is))

pub match_none : {X : Type 0} (o : Option X) (P : Type 0) (Q : X → Type 0) → o ≡ None → P → MatchOption o P Q
match_none None P Q e h = h
match_none (Some x) P Q e h = absurd (none-some x (sym e))

-- a segment as contracts see it
pub true_segment : (z : Zone) (u : ℤ) (s : Segment) → IsSegmentAt z u s
    → IsTrueSegment z (record { from = s.from; last = s.last; local_time_type = option_copied s.local_time_type })
true_segment z u s segment = record {
  order = omega (arith, ints, segment.within.0, segment.within.1);
  holds = λ v low high. copied v s.local_time_type (segment.holds v low high);
}
  where
    copied : (v : ℤ) (o : Option (Bor LocalTimeType)) → MatchOption o (HasNoType z v) (λ t. IsClock z v t.now)
        → HasTypeOrNone z v (option_copied o)
    copied v (Some t) h = h
    copied v None h = h
