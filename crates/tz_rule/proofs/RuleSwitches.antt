-- If a rule's switches are far inside their years, the switches of the likely year and of one neighbour determine the
-- next change and the last one.
use Rattle.tz_rule.proofs.Common.{arith, ◌≡◌, ints, pos, refl, ◌+ℤ◌, ℤ, sym, ◌≤ℤ◌, ◌-ℤ◌, Bool, end_of, start_of, ◌<ℤ◌, AlternateTime, AreRuleDays, IsInRuleRange, first_day-mono, not, EndsNextYear, MatchBool, switch_of, HasInnerSwitches, IsLikelyYear, IsSwitchAfter, IsSwitchUpTo, IsTriedYear, IsWholeSegment}
use Rattle.std.proofs.Math.Bool.{not-not}
use Rattle.tz_rule.proofs.InnerSwitches.{over_before_likely, to_come_after_likely}
use Rattle.tz_rule.proofs.RuleSegments.{IsBeside, years_around, segment_between_years, segment_in_year, tried_segment}

module _ (r : AlternateTime) (from switch until u : ℤ) (was is : Bool) (switches : was ≡ not is)
    (before : IsWholeSegment r (record { from = from; until = switch; is_daylight = was }))
    (after : IsWholeSegment r (record { from = switch; until = until; is_daylight = is })) where
  switch_after : from ≤ℤ u → u <ℤ switch → switch <ℤ until → IsSwitchAfter r u switch is
  switch_after low high next = record {
    above = high;
    before_is = λ v up_from below. rw (← switches) (before.one_type v (omega (arith, ints, low, up_from)) below);
    after_is = after.one_type switch (omega (arith, ints)) next;
  }

  switch_up_to : from <ℤ switch → switch ≤ℤ u → u <ℤ until → IsSwitchUpTo r u switch is
  switch_up_to last low high = record {
    up_to = low;
    before_is = rw (← switches) (before.one_type (switch -ℤ pos 1) (omega (arith, ints, last)) (omega (arith, ints)));
    after_is = λ v up_from up_to. after.one_type v up_from (omega (arith, ints, up_to, high));
  }

module _ (r : AlternateTime) (range : IsInRuleRange r) (days : AreRuleDays r) (inner : HasInnerSwitches r) (b : Bool)
    (order : MatchBool b (EndsNextYear (start_of r) (end_of r)) (¬ EndsNextYear (start_of r) (end_of r)))
    (u y : ℤ) (likely : IsLikelyYear u y) (tried : IsTriedYear y) where
  abbrev first : ℤ → ℤ
  first year = switch_of r b year

  abbrev second : ℤ → ℤ
  second year = switch_of r (not b) year

  abbrev years : IsBeside y (y -ℤ pos 1) × IsBeside y y × IsBeside y (y +ℤ pos 1)
  years = years_around y

  -- from the second one of a year up to the first one of the next

  up_to_first : IsWholeSegment r (record { from = second (y -ℤ pos 1); until = first y; is_daylight = b })
  up_to_first = tried_segment r y _ tried (segment_between_years r range days b order y (y -ℤ pos 1) y years.0 years.1
      (omega (arith, ints)))

  from_second : IsWholeSegment r (record { from = second y; until = first (y +ℤ pos 1); is_daylight = b })
  from_second = tried_segment r y _ tried (segment_between_years r range days b order y y (y +ℤ pos 1) years.1 years.2
      refl)

  within : (year : ℤ) → IsBeside y year → IsWholeSegment r (record {
    from = first year;
    until = second year;
    is_daylight = not b;
  })
  within year beside = tried_segment r y _ tried (segment_in_year r range days b order y year beside)

  -- all switches of a year come before those of the next
  apart : (last next : ℤ) → next ≡ last +ℤ pos 1 → second last <ℤ first next
  apart last next follows = omega (
    arith,
    ints,
    (inner (not b) last).1,
    (inner b next).0,
    first_day-mono last next (omega (arith, ints, follows)),
  )

  pub switch_before_first : u <ℤ first y → first y <ℤ second y → IsSwitchAfter r u (first y) (not b)
  switch_before_first here next = switch_after r (second (y -ℤ pos 1)) (first y) (second y) u b (not b)
      (sym (not-not b)) up_to_first (within y years.1) (over_before_likely second u y likely (inner (not b))) here next

  pub switch_before_second : first y ≤ℤ u → u <ℤ second y → IsSwitchAfter r u (second y) b
  switch_before_second past here = switch_after r (first y) (second y) (first (y +ℤ pos 1)) u (not b) b refl
      (within y years.1) from_second past here (apart y (y +ℤ pos 1) refl)

  pub switch_of_next_year : second y ≤ℤ u → first (y +ℤ pos 1) <ℤ second (y +ℤ pos 1)
      → IsSwitchAfter r u (first (y +ℤ pos 1)) (not b)
  switch_of_next_year past next =
      switch_after r (second y) (first (y +ℤ pos 1)) (second (y +ℤ pos 1)) u b (not b) (sym (not-not b)) from_second
      (within (y +ℤ pos 1) years.2) past (to_come_after_likely first u y likely (inner b)) next

  pub switch_from_second : second y ≤ℤ u → first y <ℤ second y → IsSwitchUpTo r u (second y) b
  switch_from_second past last = switch_up_to r (first y) (second y) (first (y +ℤ pos 1)) u (not b) b refl
      (within y years.1) from_second last past (to_come_after_likely first u y likely (inner b))

  pub switch_from_first : first y ≤ℤ u → u <ℤ second y → IsSwitchUpTo r u (first y) (not b)
  switch_from_first past here = switch_up_to r (second (y -ℤ pos 1)) (first y) (second y) u b (not b)
      (sym (not-not b)) up_to_first (within y years.1) (apart (y -ℤ pos 1) y (omega (arith, ints))) past here

  pub switch_of_last_year : u <ℤ first y → first (y -ℤ pos 1) <ℤ second (y -ℤ pos 1)
      → IsSwitchUpTo r u (second (y -ℤ pos 1)) b
  switch_of_last_year here last =
      switch_up_to r (first (y -ℤ pos 1)) (second (y -ℤ pos 1)) (first y) u (not b) b refl (within (y -ℤ pos 1) years.0)
      up_to_first last (over_before_likely second u y likely (inner (not b))) here
