-- The type of a rule changes at starts and ends alone, and repeats after 400 years.
use Rattle.tz_rule.proofs.Common.{arith, ◌≡◌, ints, pos, ◌+ℤ◌, ℤ, ◌≤ℤ◌, ap, inl, inr, end_of, start_of, ◌<ℤ◌, AlternateTime, by_lt_z, negsuc, IsDaylight, LocalTimeType, IsAlternateType, IsPairedEnd, IsUnchanged}
use Rattle.tz_rule.proofs.YearlyInstants.{IsYearly}

module _ (f g : ℤ → ℤ) (u v : ℤ) (up : u ≤ℤ v) where
  pub daylight_stays : ((y : ℤ) → u <ℤ g y → g y ≤ℤ v → ⊥) → IsDaylight f g u → IsDaylight f g v
  daylight_stays no_end (y, end, pair, from, to) =
      (y, end, pair, omega (arith, ints), by_lt_z v end (λ h. h) (λ h. absurd (ends pair h)))
    where
      ends : IsPairedEnd f g y end → end ≤ℤ v → ⊥
      ends (inl (_, e)) h = no_end (y +ℤ pos 1) (rw e at to) (rw e at h)
      ends (inr (_, e)) h = no_end y (rw e at to) (rw e at h)

  pub daylight_was : ((y : ℤ) → u <ℤ f y → f y ≤ℤ v → ⊥) → IsDaylight f g v → IsDaylight f g u
  daylight_was no_start (y, end, pair, from, to) =
      by_lt_z u (f y) (λ h. absurd (no_start y h from)) (λ h. (y, end, pair, h, omega (arith, ints)))

pub alternate_type_unchanged : (r : AlternateTime) (u v : ℤ) (t : LocalTimeType) → u ≤ℤ v → IsUnchanged r u v
    → IsAlternateType r u t → IsAlternateType r v t
alternate_type_unchanged r u v t up none (inl (day, e)) =
    inl (daylight_stays (start_of r) (end_of r) u v up none.no_end day, e)
alternate_type_unchanged r u v t up none (inr (day, e)) =
    inr (λ later. day (daylight_was (start_of r) (end_of r) u v up none.no_start later), e)

module _ (f g : ℤ → ℤ) (yf : IsYearly f) (yg : IsYearly g) (u : ℤ) where
  daylight_shifted : (v years seconds : ℤ) → ((y : ℤ) → f (y +ℤ years) ≡ f y +ℤ seconds)
      → ((y : ℤ) → g (y +ℤ years) ≡ g y +ℤ seconds) → IsDaylight f g v → IsDaylight f g (v +ℤ seconds)
  daylight_shifted v years seconds pf pg (y, end, pair, from, to) =
      (y +ℤ years, end +ℤ seconds, paired pair, omega (arith, ints, pf y), omega (arith, ints))
    where
      paired : IsPairedEnd f g y end → IsPairedEnd f g (y +ℤ years) (end +ℤ seconds)
      paired (inl (across, e)) = let next : y +ℤ years +ℤ pos 1 ≡ y +ℤ pos 1 +ℤ years = omega (arith, ints) in
          inl (across, omega (arith, ints, e, pg (y +ℤ pos 1), ap g next))
      paired (inr (in_order, e)) = inr (in_order, omega (arith, ints, e, pg y))

  pub daylight_repeats : IsDaylight f g u → IsDaylight f g (u +ℤ pos 12622780800)
  daylight_repeats = daylight_shifted u (pos 400) (pos 12622780800) yf.period yg.period

  pub daylight_repeated : IsDaylight f g (u +ℤ pos 12622780800) → IsDaylight f g u
  daylight_repeated later =
      let same : u +ℤ pos 12622780800 +ℤ negsuc 12622780799 ≡ u = omega (arith, ints) in
      rw same at (daylight_shifted (u +ℤ pos 12622780800) (negsuc 399) (negsuc 12622780799) (earlier f yf)
      (earlier g yg) later)
    where
      earlier : (h : ℤ → ℤ) → IsYearly h → (y : ℤ) → h (y +ℤ negsuc 399) ≡ h y +ℤ negsuc 12622780799
      earlier h yh y = let back : y +ℤ negsuc 399 +ℤ pos 400 ≡ y = omega (arith, ints) in
          omega (arith, ints, yh.period (y +ℤ negsuc 399), ap h back)
