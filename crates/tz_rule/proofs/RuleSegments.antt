-- From one start or end up to the next a rule has one type, and those of a year and its neighbours are around an
-- instant near the year.
use Rattle.tz_rule.proofs.Common.{arith, ◌≡◌, ints, pos, ℕ, refl, ◌+ℤ◌, ℤ, ◌≤ℤ◌, ap, ◌-ℤ◌, Bool, inl, inr, true, end_of, false, start_of, ◌<ℤ◌, AlternateTime, AreRuleDays, suc, IsInRuleRange, zero, by_lt_z, negsuc, IsRuleType, first_day-mono, not, EndsNextYear, MatchBool, switch_of, IsDaylight, LocalTimeType, IsAlternateType, IsInRuleYears, IsUtcYear, clamps, int_max, int_min, IsDeterminingYear, IsTriedYear, IsWholeSegment, type_by, IsSwitch, IsSwitchSegment}
use Rattle.tz_rule.specs.declared.timezone.rule_segments.AlternateSegment.{AlternateSegment}
use Rattle.tz_rule.proofs.DaylightSpans.{over, to_come, daylight_in_span, no_daylight_between_spans}
use Rattle.tz_rule.proofs.YearlyInstants.{year_start, IsYearly-switch_of}

-- an instant between the beginnings of two years is in one of these years or of those between them
in_some_year : (n : ℕ) (first u : ℤ) → year_start first ≤ℤ u → u <ℤ year_start (first +ℤ pos n)
    → (year : ℤ) × IsUtcYear u year × (first ≤ℤ year) × (year <ℤ (first +ℤ pos n))
in_some_year zero first u from to = let e : first +ℤ pos 0 ≡ first = omega (arith, ints) in
    absurd (omega (arith, ints, from, to, ap year_start e))
in_some_year (suc n) first u from to =
    by_lt_z u (year_start (first +ℤ pos n))
    (λ before. let found = in_some_year n first u from before in
    (found.0, found.1, found.2, omega (arith, ints, found.3)))
    (λ here. let e : first +ℤ pos (suc n) ≡ first +ℤ pos n +ℤ pos 1 = omega (arith, ints) in
    (first +ℤ pos n, (here, omega (arith, ints, to, ap year_start e)), omega (arith, ints), omega (arith, ints)))

-- rules are defined in all of their years
pub IsInRuleYears-between : (u : ℤ) → year_start (negsuc 2147483645) ≤ℤ u → u <ℤ year_start (pos 2147483646)
    → IsInRuleYears u
IsInRuleYears-between u from to =
    let e : negsuc 2147483645 +ℤ pos 4294967292 ≡ pos 2147483646 = omega (arith, ints) in
    let found = in_some_year 4294967292 (negsuc 2147483645) u from (omega (arith, ints, to, ap year_start e)) in
    (found.0, found.1, (found.2, omega (arith, ints, found.3)))

-- and in no others
pub IsInRuleYears-bounds : (u : ℤ) → IsInRuleYears u → (year_start (negsuc 2147483645) ≤ℤ u)
    × (u <ℤ year_start (pos 2147483646))
IsInRuleYears-bounds u (year, is, within) = (
  omega (
    arith,
    ints,
    is.0,
    first_day-mono (negsuc 2147483645) year
        within.0,
  ),
  omega (
    arith,
    ints,
    is.1,
    first_day-mono (year +ℤ pos 1) (pos 2147483646) (omega (arith, ints, within.1)),
  ),
)

is_switch : (r : AlternateTime) (is_end : Bool) (y : ℤ) → IsSwitch r (switch_of r is_end y)
is_switch r true y = (y, inr refl)
is_switch r false y = (y, inl refl)

type_by_daylight : (r : AlternateTime) (u : ℤ) (b : Bool)
    → MatchBool b (IsDaylight (start_of r) (end_of r) u) (¬ IsDaylight (start_of r) (end_of r) u)
    → IsAlternateType r u (type_by r b)
type_by_daylight r u true day = inl (day, refl)
type_by_daylight r u false day = inr (day, refl)

-- a year or its neighbour
abbrev pub IsBeside : ℤ → ℤ → Type 0
IsBeside year y = ((year -ℤ pos 1) ≤ℤ y) × (y ≤ℤ (year +ℤ pos 1))

pub years_around : (year : ℤ) → IsBeside year (year -ℤ pos 1) × IsBeside year year × IsBeside year (year +ℤ pos 1)
years_around year = (
  (omega (arith, ints), omega (arith, ints)),
  (omega (arith, ints), omega (arith, ints)),
  (
    omega (arith, ints),
    omega (arith, ints),
  ),
)

module _ (r : AlternateTime) (range : IsInRuleRange r) (days : AreRuleDays r) where
  -- from a start to an end the type is that of daylight saving time, and from an end to a start that of standard time
  switch_segment : (is_daylight : Bool) (year last next : ℤ) → IsBeside year last → IsBeside year next
      → ((v : ℤ) → switch_of r (not is_daylight) last ≤ℤ v → v <ℤ switch_of r is_daylight next
      → MatchBool is_daylight (IsDaylight (start_of r) (end_of r) v) (¬ IsDaylight (start_of r) (end_of r) v))
      → IsSwitchSegment r year (record {
        from = switch_of r (not is_daylight) last;
        until = switch_of r is_daylight next;
        is_daylight = is_daylight;
      })
  switch_segment is_daylight year last next beside_last beside_next day = record {
    from_is = is_switch r (not is_daylight) last;
    until_is = is_switch r is_daylight next;
    one_type = λ v from to. type_by_daylight r v is_daylight (day v from to);
    low = omega (
      arith,
      ints,
      (IsYearly-switch_of r range days (not is_daylight)).low last,
      first_day-mono
          (year -ℤ pos 1) last beside_last.0,
    );
    high = omega (
      arith,
      ints,
      (IsYearly-switch_of r range days is_daylight).high next,
      first_day-mono next
          (year +ℤ pos 1) beside_next.1,
    );
  }

  -- by the order of a year's switches, of which the end is the first if it belongs to the start of the year before

  pub segment_between_years : (b : Bool) → MatchBool b (EndsNextYear (start_of r) (end_of r))
      (¬ EndsNextYear (start_of r) (end_of r)) → (year last next : ℤ) → IsBeside year last → IsBeside year next
      → next ≡ last +ℤ pos 1
      → IsSwitchSegment r year (record { from = switch_of r (not b) last; until = switch_of r b next; is_daylight = b })
  segment_between_years true across year last next beside_last beside_next follows =
      switch_segment true year last next beside_last beside_next
      (λ v from to. daylight_in_span r range days true across v last (from, rw follows at to))
  segment_between_years false in_order year last next beside_last beside_next follows =
      switch_segment false year last next beside_last beside_next
      (λ v from to. no_daylight_between_spans r range days false in_order v last next follows from to)

  pub segment_in_year : (b : Bool) → MatchBool b (EndsNextYear (start_of r) (end_of r))
      (¬ EndsNextYear (start_of r) (end_of r)) → (year y : ℤ) → IsBeside year y
      → IsSwitchSegment r year (record { from = switch_of r b y; until = switch_of r (not b) y; is_daylight = not b })
  segment_in_year true across year y beside =
      let next : y ≡ y -ℤ pos 1 +ℤ pos 1 = omega (arith, ints) in
      switch_segment false year y y beside beside (λ v from to. no_daylight_between_spans r range days true across v
      (y -ℤ pos 1) y next (omega (arith, ints, ap (end_of r) next, from)) to)
  segment_in_year false in_order year y beside =
      switch_segment true year y y beside beside (λ v from to. daylight_in_span r range days false in_order v y
      (from, to))

-- the year whose switches determine the segment around an instant is its year in UTC or a neighbour, so there is a type
module _ (r : AlternateTime) (range : IsInRuleRange r) (days : AreRuleDays r) (b : Bool) (u year : ℤ)
    (is : IsUtcYear u year) where
  abbrev first : ℤ → ℤ
  first = switch_of r b

  pub determining_before : u <ℤ first year → IsDeterminingYear r b u (year -ℤ pos 1)
  determining_before before =
      let next : year -ℤ pos 1 +ℤ pos 1 ≡ year = omega (arith, ints) in (
        λ _. over (switch_of r (not b)) (IsYearly-switch_of r range days (not b)) u year (year -ℤ pos 1 -ℤ pos 1) is
            (omega (arith, ints)),
        rw next before,
      )

  pub determining_after : first (year +ℤ pos 1) ≤ℤ u → IsDeterminingYear r b u (year +ℤ pos 1)
  determining_after past = (
    λ early. omega (arith, ints, early, past),
    to_come first (IsYearly-switch_of r range days b) u year
        (year +ℤ pos 1 +ℤ pos 1) is (omega (arith, ints)),
  )

  pub alternate_type_total : MatchBool b (EndsNextYear (start_of r) (end_of r)) (¬ EndsNextYear (start_of r) (end_of r))
      → (t : LocalTimeType) × IsAlternateType r u t
  alternate_type_total order =
      by_lt_z u (first year) (λ before. by_year (year -ℤ pos 1) (determining_before before))
      (λ from. by_lt_z u (first (year +ℤ pos 1))
      (λ here. by_year year (λ early. omega (arith, ints, early, from), here))
      (λ past. by_year (year +ℤ pos 1) (determining_after past)))
    where
      by_year : (y : ℤ) → IsDeterminingYear r b u y → (t : LocalTimeType) × IsAlternateType r u t
      by_year y determines =
          let years = years_around y in
          by_lt_z u (first y) (λ early. (
            type_by r b,
            (segment_between_years r range days b order y (y -ℤ pos 1) y years.0 years.1
                (omega (arith, ints))).one_type u (determines.0 early) early,
          ))
          (λ from. by_lt_z u (switch_of r (not b) y)
          (λ here. (type_by r (not b), (segment_in_year r range days b order y y years.1).one_type u from here))
          (λ late. (
            type_by r b,
            (segment_between_years r range days b order y y (y +ℤ pos 1) years.1 years.2 refl).one_type u
                late determines.1,
          )))

-- such a segment, cut where the years of rules begin and end
pub cut_segment : (r : AlternateTime) (year : ℤ) (s : AlternateSegment) → IsSwitchSegment r year s
    → IsWholeSegment r (record {
      from = int_max s.from (year_start (negsuc 2147483645));
      until = int_min s.until (year_start (pos 2147483646));
      is_daylight = s.is_daylight;
    })
unfolding IsRuleType
cut_segment r year s is =
    let first = year_start (negsuc 2147483645) in
    let end = year_start (pos 2147483646) in
    record {
      from_is = λ some. by_lt_z s.from first
          (λ less. let e : int_max s.from first ≡ first = omega (arith, ints, clamps) in
          inr (inl e)) (λ past. let e : int_max s.from first ≡ s.from = omega (arith, ints, clamps) in
          rw e (inl (is.from_is, IsInRuleYears-between s.from past (omega (arith, ints, clamps, some)))));
      until_is = λ some. by_lt_z s.until end
          (λ less. let e : int_min s.until end ≡ s.until = omega (arith, ints, clamps) in
          rw e (inl (is.until_is, IsInRuleYears-between s.until (omega (arith, ints, clamps, some)) less)))
          (λ past. let e : int_min s.until end ≡ end = omega (arith, ints, clamps) in
          inr (inr e));
      one_type = λ v low high. (
        IsInRuleYears-between v (omega (arith, ints, clamps, low)) (omega (arith, ints, clamps, high)),
        is.one_type v (omega (arith, ints, clamps, low)) (omega (arith, ints, clamps, high)),
      );
    }

-- in the years that are tried nothing is cut
pub tried_segment : (r : AlternateTime) (year : ℤ) (s : AlternateSegment) → IsTriedYear year → IsSwitchSegment r year s
    → IsWholeSegment r s
tried_segment r year s tried is =
    let from : int_max s.from (year_start (negsuc 2147483645)) ≡ s.from =
    omega (
      arith,
      ints,
      clamps,
      is.low,
      first_day-mono (negsuc 2147483645) (year -ℤ pos 1)
          (omega (arith, ints, tried.0)),
      tried.0,
    ) in
    let until : int_min s.until (year_start (pos 2147483646)) ≡ s.until =
    omega (
      arith,
      ints,
      clamps,
      is.high,
      first_day-mono (year +ℤ pos 1) (pos 2147483646)
          (omega (arith, ints, tried.1)),
      tried.1,
    ) in
    rw (from, until) at (cut_segment r year s is)
