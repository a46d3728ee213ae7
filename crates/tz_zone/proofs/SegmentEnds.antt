-- Where a segment of the clock begins and ends the tables change.
use Rattle.tz_zone.proofs.Common.{◌≡◌, arith, ℕ, ints, refl, sym, inr, inl, length, ℤ, subst, ap, List, ◌≤ℤ◌, Some, ◌<ℤ◌, pos, ◌-ℤ◌, ◌-◌, Zone, [], ◌+ℤ◌, by_lt_z, negsuc, LeapSecond, slice_get, ◌≢◌, same_Some, ◌∷◌, ◌⊎◌, IsReachedAt, AreLeapSeconds, IsWideEffect, IsInstant, Transition, IsLeapTimeRefused, IsPastInstants, IsTimeReached, IsSoundTable, IsBeforeStart, none-some, IsBefore, IsChangeByRule, HasTableEnds, IsFar, IsTableChange}
use Rattle.tz_zone.proofs.LeapLists.{first_step}
use Rattle.tz_zone.proofs.RisingTimes.{rising, none_ahead, reached_before}
use Rattle.tz_zone.proofs.Positions.{reached_at}
use Rattle.tz_zone.proofs.LeapTimes.{leap_time_mono, past_later, begun_later, not_past_within, not_refused_within, IsInstant-from_bounds, instant_bounds}
use Rattle.tz_zone.proofs.InstantsWithLeapTime.{plain_leap, leap_unless_refused, leap_time_low, defined_at_effect}

-- an instant lies before a truncated start or it does not
pub before_start_or_not : (leaps : List LeapSecond) (u : ℤ) → IsBeforeStart leaps u ⊎ ¬ IsBeforeStart leaps u
before_start_or_not [] u = inr (λ before. none-some before.0 before.1.0)
before_start_or_not (l ∷ rest) u = elim (first_step l) [
  | inl (e, one) ↦ inr (λ before. before.1.1 (rw (same_Some before.0 l (sym before.1.0)) one))
  | inr (e, other) ↦ by_lt_z (u +ℤ l.correction) l.unix_leap_time
      (λ early. inl (l, (refl, other), early))
      (λ late. inr (λ before. absurd (omega (
        arith,
        ints,
        late,
        rw (same_Some before.0 l (sym before.1.0)) at before.2,
      ))))
]

-- where instants have no leap time there are leap seconds
pub some_if_refused : (leaps : List LeapSecond) (u : ℤ) → IsLeapTimeRefused leaps u → leaps ≢ []
some_if_refused leaps u refused none = (plain_leap leaps none u).not_refused refused

-- what is not before a truncated start has a leap time, or leap times may leave 64 bits there
far_or_defined : (leaps : List LeapSecond) → AreLeapSeconds leaps → (u : ℤ) → ¬ IsBeforeStart leaps u → IsFar leaps u
    ⊎ ¬ IsLeapTimeRefused leaps u
far_or_defined [] are u begun = inr (plain_leap [] refl u).not_refused
far_or_defined (l ∷ rest) are u begun = by_lt_z (pos 80000000000000000) u
    (λ h. inl ((λ e. absurd (omega (arith, ap length e))), h)) (λ h. inr (not_refused_within (l ∷ rest) are u begun h))

-- where leap times have left 64 bits they may do so
pub far_if_past : (leaps : List LeapSecond) → AreLeapSeconds leaps → (u : ℤ) → IsPastInstants leaps u → IsFar leaps u
far_if_past leaps are u past = (
  some_if_refused leaps u (inr past),
  by_lt_z (pos 80000000000000000) u (λ h. h)
      (λ h. absurd (not_past_within leaps are u h past)),
)

module _ (z : Zone) (sound : IsSoundTable z) (u : ℤ) (k : ℕ) (fits : IsInstant u) (at : IsReachedAt z u k)
    (before : Transition) (is : IsBefore z.transitions k before) where
  are : AreLeapSeconds z.leap_seconds
  are = sound.leap_seconds_are

  -- the transition before the position of an instant is reached there
  pub before_reached : before.unix_leap_time ≤ℤ at.time
  before_reached = elim is [
    | inl (none, first) ↦ omega (
      arith,
      ints,
      leap_time_low z.leap_seconds are u at.time fits at.time_is,
      ap
          (λ (t : Transition). t.unix_leap_time) first,
    )
    | inr (some, at_before) ↦ at.reached (k - 1) before (omega (arith, some)) at_before
  ]

  -- where its leap time is first reached it takes effect, or the leap-second table begins
  pub change_at_effect : (m : ℤ) → IsWideEffect z.leap_seconds before.unix_leap_time m → m ≢ negsuc 9223372036854775807
      → IsTableChange z m
  change_at_effect m wide not_least = by_lt_z (negsuc 9223372036854775807) before.unix_leap_time effect least
    where
      up_to : m ≤ℤ u
      up_to = wide.least u (at.time, at.time_is, before_reached)

      effect : negsuc 9223372036854775807 <ℤ before.unix_leap_time → IsTableChange z m
      effect above = elim is [
        | inl (none, first) ↦ absurd (omega (arith, ints, above, ap (λ (t : Transition). t.unix_leap_time) first))
        | inr (some, at_before) ↦ inl (
          k - 1,
          (
            before,
            at_before,
            record {
              not_least = λ e. absurd (omega (arith, ints, above, e));
              instant = IsInstant-from_bounds m wide.low (omega (arith, ints, up_to, (instant_bounds u fits).1));
              reached = wide.reached (defined_at_effect z.leap_seconds are before.unix_leap_time m u wide
                  at.time_is.not_refused up_to);
              least = wide.least;
            },
          ),
        )
      ]

      least : before.unix_leap_time ≤ℤ negsuc 9223372036854775807 → IsTableChange z m
      least low = elim (before_start_or_not z.leap_seconds (m -ℤ pos 1)) [
        | inl early ↦ inr (inr (early, wide.begun))
        | inr begun ↦
            let above : negsuc 9223372036854775807 <ℤ m =
            by_lt_z (negsuc 9223372036854775807) m (λ h. h)
            (λ h. absurd (not_least (omega (arith, ints, h, wide.low)))) in
            let instant = IsInstant-from_bounds (m -ℤ pos 1) (omega (arith, ints, above))
            (omega (arith, ints, up_to, (instant_bounds u fits).1)) in
            let here = leap_unless_refused z.leap_seconds are (m -ℤ pos 1) (defined begun) in
            let from = leap_time_low z.leap_seconds are (m -ℤ pos 1) here.0 instant here.1 in
            absurd (omega (arith, ints, wide.least (m -ℤ pos 1) (here.0, here.1, omega (arith, ints, low, from))))
      ]
        where
          defined : ¬ IsBeforeStart z.leap_seconds (m -ℤ pos 1) → ¬ IsLeapTimeRefused z.leap_seconds (m -ℤ pos 1)
          defined begun (inl early) = begun early
          defined begun (inr past) = at.time_is.not_refused
              (inr (past_later z.leap_seconds are (m -ℤ pos 1) u (omega (arith, ints, up_to)) past))

  -- where the leap time of the transition after the position is first reached that takes effect, or leap times may
  -- leave 64 bits
  pub change_at_next : (next : Transition) → slice_get z.transitions k ≡ Some next → (m : ℤ)
      → m ≤ℤ pos 9223372036854775807 → IsWideEffect z.leap_seconds next.unix_leap_time m → IsTableChange z m
      ⊎ IsFar z.leap_seconds m
  change_at_next next at_next m high wide = elim (far_or_defined z.leap_seconds are m wide.begun) [
    | inl far ↦ inr far
    | inr defined ↦ inl (inl (
      k,
      (
        next,
        at_next,
        record {
          not_least = λ e. absurd (omega (
            arith,
            ints,
            e,
            at.ahead k next (omega arith) at_next,
            leap_time_low z.leap_seconds are u at.time fits
                at.time_is,
          ));
          instant = IsInstant-from_bounds m wide.low high;
          reached = wide.reached defined;
          least = wide.least;
        },
      ),
    ))
  ]

  -- so the ends of a segment between two transitions are changes of the tables
  pub ends_between : (next : Transition) → slice_get z.transitions k ≡ Some next → (from last : ℤ)
      → last ≤ℤ pos 9223372036854775807 → IsWideEffect z.leap_seconds before.unix_leap_time from
      → (last ≢ pos 9223372036854775807 → IsPastInstants z.leap_seconds (last +ℤ pos 1)
      ⊎ IsWideEffect z.leap_seconds next.unix_leap_time (last +ℤ pos 1)) → HasTableEnds z from last
  ends_between next at_next from last high wide after = record {
    from_is = λ not_least. inl (change_at_effect from wide not_least);
    last_is = λ not_greatest. elim (after not_greatest) [
      | inl past ↦ inr (far_if_past z.leap_seconds are (last +ℤ pos 1) past)
      | inr next_effect ↦ change_at_next next at_next (last +ℤ pos 1) (one_more last high not_greatest) next_effect
    ];
  }
    where
      one_more : (n : ℤ) → n ≤ℤ pos 9223372036854775807 → n ≢ pos 9223372036854775807
          → (n +ℤ pos 1) ≤ℤ pos 9223372036854775807
      one_more n high other = by_lt_z n (pos 9223372036854775807) (λ h. omega (arith, ints, h))
          (λ h. absurd (other (omega (arith, ints, h, high))))

  -- where the last transition is reached all are
  pub all_reached : k ≡ length z.transitions → (v : ℤ) → IsTimeReached z.leap_seconds before.unix_leap_time v
      → IsReachedAt z v (length z.transitions)
  all_reached all v (l, leap, reached) = subst (IsReachedAt z v) all (reached_at z v l k leap (
    reached_before z.transitions (rising z sound) k before is l reached,
    none_ahead z.transitions k l (omega (arith, all)),
  ))

  -- and the ends of a segment after all transitions are changes, too
  pub ends_after_all : k ≡ length z.transitions → (from last : ℤ) → from ≤ℤ last
      → ((v : ℤ) → from ≤ℤ v → v ≤ℤ last → IsTimeReached z.leap_seconds before.unix_leap_time v)
      → (IsWideEffect z.leap_seconds before.unix_leap_time from ⊎ IsChangeByRule z.extra_rule from)
      → (last ≢ pos 9223372036854775807 → IsPastInstants z.leap_seconds (last +ℤ pos 1)
      ⊎ IsChangeByRule z.extra_rule (last +ℤ pos 1)) → HasTableEnds z from last
  ends_after_all all from last order reached begin after = record {
    from_is = λ not_least. inl (elim begin [
      | inl wide ↦ change_at_effect from wide not_least
      | inr change ↦ inr (inl (change, inr (all_reached all from (reached from (omega (arith, ints)) order))))
    ]);
    last_is = λ not_greatest. elim (after not_greatest) [
      | inl past ↦ inr (far_if_past z.leap_seconds are (last +ℤ pos 1) past)
      | inr change ↦ elim (far_or_defined z.leap_seconds are (last +ℤ pos 1)
          (begun_later z.leap_seconds are last (last +ℤ pos 1) (omega (arith, ints))
          (λ early. at_last.1.not_refused (inl early)))) [
            | inl far ↦ inr far
            | inr defined ↦
                let there = leap_unless_refused z.leap_seconds are (last +ℤ pos 1) defined in
                let later = leap_time_mono z.leap_seconds are last (last +ℤ pos 1) at_last.0 there.0
                (omega (arith, ints)) at_last.1 there.1 in
                inl (inr (inl (
                  change,
                  inr (all_reached all (last +ℤ pos 1)
                      (there.0, there.1, omega (arith, ints, at_last.2, later))),
                )))
          ]
    ];
  }
    where
      at_last : IsTimeReached z.leap_seconds before.unix_leap_time last
      at_last = reached last order (omega (arith, ints))
