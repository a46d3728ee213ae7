-- Daylight saving time lasts through the spans from each start to its end, and not from the end of a span up to the
-- next start.
use Rattle.tz_rule.proofs.Common.{arith, ◌≡◌, ints, pos, refl, ◌+ℤ◌, ℤ, ◌≤ℤ◌, Bool, inl, inr, true, end_of, false, start_of, ◌<ℤ◌, AlternateTime, AreRuleDays, IsInRuleRange, by_lt_z, first_day-mono, EndsNextYear, MatchBool, IsDaylight, IsUtcYear, IsPairedEnd}
use Rattle.tz_rule.proofs.YearlyInstants.{IsYearly, IsYearly-start_of, IsYearly-end_of}

-- two years before the year of an instant everything is over
pub over : (f : ℤ → ℤ) → IsYearly f → (u year y : ℤ) → IsUtcYear u year → (y +ℤ pos 2) ≤ℤ year → f y ≤ℤ u
over f yf u year y is h = omega (arith, ints, yf.high y, first_day-mono y year (omega (arith, ints)), is.0)

-- two years after it everything is yet to come
pub to_come : (f : ℤ → ℤ) → IsYearly f → (u year y : ℤ) → IsUtcYear u year → (year +ℤ pos 2) ≤ℤ y → u <ℤ f y
to_come f yf u year y is h = omega (arith, ints, yf.low y, first_day-mono (year +ℤ pos 1) y (omega (arith, ints)), is.1)

-- the end of the span that starts in a year: the next year's, or the same year's
abbrev pub paired_end : Bool → (ℤ → ℤ) → ℤ → ℤ
paired_end true g y = g (y +ℤ pos 1)
paired_end false g y = g y

module _ (f g : ℤ → ℤ) where
  is_paired : (b : Bool) → MatchBool b (EndsNextYear f g) (¬ EndsNextYear f g) → (y : ℤ)
      → IsPairedEnd f g y (paired_end b g y)
  is_paired true across y = inl (across, refl)
  is_paired false in_order y = inr (in_order, refl)

  pub paired_end-unique : (b : Bool) → MatchBool b (EndsNextYear f g) (¬ EndsNextYear f g) → (y end : ℤ)
      → IsPairedEnd f g y end → end ≡ paired_end b g y
  paired_end-unique true across y end (inl (_, e)) = e
  paired_end-unique true across y end (inr (in_order, _)) = absurd (in_order across)
  paired_end-unique false in_order y end (inl (across, _)) = absurd (in_order across)
  paired_end-unique false in_order y end (inr (_, e)) = e

module _ (g : ℤ → ℤ) (yg : IsYearly g) where
  paired_end-rises : (b : Bool) (x y : ℤ) → x ≤ℤ y → paired_end b g x ≤ℤ paired_end b g y
  paired_end-rises true x y up = yg.rises (x +ℤ pos 1) (y +ℤ pos 1) (omega (arith, ints))
  paired_end-rises false x y up = yg.rises x y up

module _ (r : AlternateTime) (range : IsInRuleRange r) (days : AreRuleDays r) (b : Bool)
    (order : MatchBool b (EndsNextYear (start_of r) (end_of r)) (¬ EndsNextYear (start_of r) (end_of r))) where
  abbrev starts : IsYearly (start_of r)
  starts = IsYearly-start_of r range days.start_is

  abbrev ends : IsYearly (end_of r)
  ends = IsYearly-end_of r range days.end_is

  abbrev IsSpan : ℤ → ℤ → Type 0
  IsSpan u y = (start_of r y ≤ℤ u) × (u <ℤ paired_end b (end_of r) y)

  pub daylight_in_span : (u y : ℤ) → IsSpan u y → IsDaylight (start_of r) (end_of r) u
  daylight_in_span u y (from, to) = (
    y,
    paired_end b (end_of r) y,
    is_paired (start_of r) (end_of r) b order y,
    from,
    to,
  )

  -- from the end of a span up to the next start
  pub no_daylight_between_spans : (u last next : ℤ) → next ≡ last +ℤ pos 1 → paired_end b (end_of r) last ≤ℤ u
      → u <ℤ start_of r next → ¬ IsDaylight (start_of r) (end_of r) u
  no_daylight_between_spans u last next follows from to (y, end, pair, start, before) =
      by_lt_z last y
      (λ more. omega (arith, ints, to, start, starts.rises next y (omega (arith, ints, follows, more))))
      (λ up. omega (
        arith,
        ints,
        from,
        before,
        paired_end-unique (start_of r) (end_of r) b order y end pair,
        paired_end-rises
            (end_of r) ends b y last up,
      ))
