-- Which instants have a leap time, by others that have one, and which leap times are reached there.
use Rattle.tz_zone.proofs.Common.{◌≡◌, arith, ℕ, ints, refl, sym, inr, inl, length, ℤ, subst, ◌<◌, List, ◌≤ℤ◌, ◌<ℤ◌, pos, LocalTimeType, Zone, [], by_lt_z, negsuc, LeapSecond, slice_get_within, ◌≢◌, suc, AreLeapSeconds, IsClock, IsWideEffect, zero, IsInstant, Transition, IsLeapTimeRefused, eqb, IsReached, IsLeapTime, IsTimeReached, IsTypeWithout, IsBeforeStart, nil_from_length, none-some, HasNoType, MatchBool, eqb-suc-zero}
use Rattle.tz_zone.proofs.LeapLists.{count_exists}
use Rattle.tz_zone.proofs.LeapTimes.{IsLeapTime-from_count, leap_time_from_count, leap_time_fits, leap_time_mono, one_leap_time, past_later, begun_later, not_refused_within, instant_bounds}
use Rattle.tz_zone.proofs.Clocks.{some_from_last}

-- without leap seconds the leap time is the instant
pub plain_leap : (leaps : List LeapSecond) → leaps ≡ [] → (u : ℤ) → IsLeapTime leaps u u
plain_leap leaps none u = subst (λ (ls : List LeapSecond). IsLeapTime ls u u) (sym none) plain
  where
    never : (i : ℕ) (l : LeapSecond) → ¬ IsReached [] i l u
    never i l r = absurd (omega (arith, slice_get_within [] i l r.0))

    not_refused : ¬ IsLeapTimeRefused [] u
    not_refused (inl (l, (at, other), before)) = none-some l at
    not_refused (inr (i, l, r, outside)) = never i l r

    plain : IsLeapTime [] u u
    plain = record { not_refused = not_refused; value = (pos 0, inl (refl, never), omega (arith, ints)) }

-- without leap seconds each leap time is its own effect
pub plain_effect : (leaps : List LeapSecond) → leaps ≡ [] → (v : ℤ) → negsuc 9223372036854775807 ≤ℤ v
    → IsWideEffect leaps v v
plain_effect leaps none v low = record {
  least = λ w reached. omega (
    arith,
    ints,
    reached.2,
    one_leap_time leaps w reached.0 w reached.1 (plain_leap leaps none w),
  );
  reached = λ defined. (v, plain_leap leaps none v, omega (arith, ints));
  begun = λ before. (plain_leap leaps none v).not_refused (inl before);
  low = low;
}

-- a clause on that there are no transitions, or on that there are some, by the test of their number
pub by_count : (count : ℕ) (transitions : List Transition) → count ≡ length transitions → (P Q R : Type 0)
    → (transitions ≡ [] → P → R) → (0 < length transitions → Q → R) → MatchBool (eqb count 0) P Q → R
by_count zero transitions is P Q R empty after types = empty (nil_from_length transitions (sym is)) types
by_count (suc before) transitions is P Q R empty after types =
    after (omega (arith, is)) (rw (eqb-suc-zero before) at types)

module _ (leaps : List LeapSecond) (are : AreLeapSeconds leaps) where
  pub leap_unless_refused : (u : ℤ) → ¬ IsLeapTimeRefused leaps u → (l : ℤ) × IsLeapTime leaps u l
  leap_unless_refused u defined =
      let count = count_exists leaps are u in
      (_, IsLeapTime-from_count leaps are u count.0 count.1 defined)

  -- the leap time of an instant is one of 64 bits
  pub leap_time_low : (u l : ℤ) → IsInstant u → IsLeapTime leaps u l → negsuc 9223372036854775807 ≤ℤ l
  leap_time_low u l fits leap =
      let count = count_exists leaps are u in
      omega (
        arith,
        ints,
        (instant_bounds _ (leap_time_fits leaps are u count.0 count.1 fits
            leap.not_refused)).0,
        leap_time_from_count leaps are u l count.0 count.1 leap,
      )

  pub past_from : (u v : ℤ) → ¬ IsBeforeStart leaps u → IsLeapTimeRefused leaps u → u ≤ℤ v → IsLeapTimeRefused leaps v
  past_from u v begun (inl before) h = absurd (begun before)
  past_from u v begun (inr past) h = inr (past_later leaps are u v h past)

  -- between two instants that are not refused none is
  pub defined_between : (u w v : ℤ) → ¬ IsLeapTimeRefused leaps u → ¬ IsLeapTimeRefused leaps w → u ≤ℤ v → v ≤ℤ w
      → ¬ IsLeapTimeRefused leaps v
  defined_between u w v defined there low high (inl before) =
      begun_later leaps are u v low (λ h. defined (inl h)) before
  defined_between u w v defined there low high (inr past) = there (inr (past_later leaps are v w high past))

  -- up to the reach of all tables none is, once they have begun
  pub defined_within : (u v : ℤ) → ¬ IsLeapTimeRefused leaps u → u ≤ℤ v → v ≤ℤ pos 80000000000000000
      → ¬ IsLeapTimeRefused leaps v
  defined_within u v defined low high = not_refused_within leaps are v
      (begun_later leaps are u v low (λ h. defined (inl h))) high

  -- the effect of a leap time has one, if a later instant has one
  pub defined_at_effect : (v m u : ℤ) → IsWideEffect leaps v m → ¬ IsLeapTimeRefused leaps u → m ≤ℤ u
      → ¬ IsLeapTimeRefused leaps m
  defined_at_effect v m u wide defined from (inl before) = wide.begun before
  defined_at_effect v m u wide defined from (inr past) = defined (inr (past_later leaps are m u from past))

  -- at an instant that has a leap time another one is reached exactly from its effect on
  pub reached_from : (v m u : ℤ) → IsWideEffect leaps v m → ¬ IsLeapTimeRefused leaps u → m ≤ℤ u
      → IsTimeReached leaps v u
  reached_from v m u wide defined from =
      let here = leap_unless_refused u defined in
      let at = wide.reached (defined_at_effect v m u wide defined from) in
      (here.0, here.1, omega (arith, ints, at.2, leap_time_mono leaps are m u at.0 here.0 from at.1 here.1))

  pub effect_ahead : (u v m : ℤ) → ¬ IsLeapTimeRefused leaps u → ¬ IsTimeReached leaps v u → IsWideEffect leaps v m
      → u <ℤ m
  effect_ahead u v m defined before wide =
      by_lt_z u m (λ h. h) (λ h. absurd (before (reached_from v m u wide defined h)))

-- where instants have no leap time, a zone with transitions has no type
pub no_type_refused : (z : Zone) → z.transitions ≢ [] → (u : ℤ) → IsLeapTimeRefused z.leap_seconds u → HasNoType z u
no_type_refused z some u refused t (inl (none, type)) = some none
no_type_refused z some u refused t (inr (last, is_last, (l, leap, side))) = leap.not_refused refused

-- a zone without transitions has its rule's types, or type number 0
pub clock_without : (z : Zone) → z.transitions ≡ [] → (u : ℤ) (t : LocalTimeType)
    → (IsTypeWithout z z.extra_rule u t → IsClock z u t) × (IsClock z u t → IsTypeWithout z z.extra_rule u t)
clock_without z none u t = ((λ type. inl (none, type)), back)
  where
    back : IsClock z u t → IsTypeWithout z z.extra_rule u t
    back (inl (is, type)) = type
    back (inr (last, is_last, with)) = absurd (some_from_last z.transitions last is_last none)
