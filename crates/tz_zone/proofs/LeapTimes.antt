-- Leap times and effects of a list of leap seconds: values, refusals, order, and that each has one value.
use Rattle.tz_zone.proofs.Common.{◌≡◌, arith, ℕ, ints, refl, sym, inr, inl, length, ℤ, ◌∙◌, ◌<◌, ap, List, ◌≤ℤ◌, ◌<ℤ◌, pos, ◌-ℤ◌, ◌+ℤ◌, ◌+◌, by_lt_z, negsuc, LeapSecond, slice_get_within, same_Some, ◌⊎◌, suc, AreLeapSeconds, zero, IsInstant, cases_lt, IsLeapTimeRefused, IsPastInstants, IsReached, IsLeapTime, IsTimeReached, correction_before, IsBeforeStart, IsStart, HasBegunAt, IsCorrection, IsEffect, ◌↔◌}
use Rattle.std.proofs.Common.{slice_get}
use Rattle.tz_zone.proofs.LeapSteps.{AreSteps, correction_bound, time_bound, leap_growth, leap_from_start, IsTimeCount, IsEffectByCount, effect_reached, effect_least, reached_down}
use Rattle.tz_zone.proofs.LeapLists.{time_at, time_at-is, correction_before-suc, correction_without_start, correction_at_truncated, IsReachedCount, AreSteps-from_leaps, IsReached-at, IsReached-below, IsCorrection-from_count, correction_from_count, count_exists}

-- instants are the numbers of 64 bits
pub IsInstant-from_bounds : (z : ℤ) → negsuc 9223372036854775807 ≤ℤ z → z ≤ℤ pos 9223372036854775807 → IsInstant z
IsInstant-from_bounds (pos n) low high = record { sfits = omega (arith, ints) }
IsInstant-from_bounds (negsuc n) low high = record { sfits = omega (arith, ints) }

pub instant_bounds : (z : ℤ) → IsInstant z → (negsuc 9223372036854775807 ≤ℤ z) × (z ≤ℤ pos 9223372036854775807)
instant_bounds (pos n) fits = (omega (arith, ints, fits.sfits), omega (arith, ints, fits.sfits))
instant_bounds (negsuc n) fits = (omega (arith, ints, fits.sfits), omega (arith, ints, fits.sfits))

-- what is no instant, and not too small, is above them all
above_instants : (z : ℤ) → ¬ IsInstant z → negsuc 9223372036854775807 ≤ℤ z → pos 9223372036854775807 <ℤ z
above_instants z outside low = by_lt_z (pos 9223372036854775807) z (λ h. h)
    (λ h. absurd (outside (IsInstant-from_bounds z low h)))

-- an instant has one correction, whatever the list
correction_unique : (leaps : List LeapSecond) (u c c' : ℤ) → IsCorrection leaps u c → IsCorrection leaps u c' → c ≡ c'
correction_unique leaps u c c' (inl (is, none)) (inl (is', none')) = is ∙ sym is'
correction_unique leaps u c c' (inl (is, none)) (inr (i, l, reached, is', later)) = absurd (none i l reached)
correction_unique leaps u c c' (inr (i, l, reached, is, later)) (inl (is', none)) = absurd (none i l reached)
correction_unique leaps u c c' (inr (i, l, reached, is, later)) (inr (i', l', reached', is', later')) =
    elim (cases_lt i i') [
      | inl below ↦ absurd (later i' l' below reached')
      | inr above ↦ elim (cases_lt i' i) [
        | inl below ↦ absurd (later' i l below reached)
        | inr above' ↦
            is ∙ ap (λ x. x.correction) (same_Some l l' (sym reached.0 ∙ sym (ap (slice_get leaps) (omega arith))
            ∙ reached'.0)) ∙ sym is'
      ]
    ]

-- so it has one leap time
pub one_leap_time : (leaps : List LeapSecond) (u v v' : ℤ) → IsLeapTime leaps u v → IsLeapTime leaps u v' → v ≡ v'
one_leap_time leaps u v v' a b =
    a.value.2 ∙ ap (λ c. u +ℤ c) (correction_unique leaps u a.value.0 b.value.0 a.value.1 b.value.1) ∙ sym b.value.2

-- and a leap time has one effect
pub one_effect : (leaps : List LeapSecond) (v u u' : ℤ) → IsEffect leaps v u → IsEffect leaps v u' → u ≡ u'
one_effect leaps v u u' a b = omega (arith, ints, a.least u' b.reached, b.least u a.reached)

module _ (leaps : List LeapSecond) (are : AreLeapSeconds leaps) where
  steps : AreSteps (length leaps) (time_at leaps) (correction_before leaps)
  steps = AreSteps-from_leaps leaps are

  -- the leap time, where it is not refused, is the instant with the correction
  pub IsLeapTime-from_count : (u : ℤ) (k : ℕ) → IsReachedCount leaps u k → ¬ IsLeapTimeRefused leaps u
      → IsLeapTime leaps u (u +ℤ correction_before leaps k)
  IsLeapTime-from_count u k count defined =
      record {
        not_refused = defined;
        value = (correction_before leaps k, IsCorrection-from_count leaps u k count, refl);
      }

  pub leap_time_from_count : (u v : ℤ) (k : ℕ) → IsReachedCount leaps u k → IsLeapTime leaps u v
      → v ≡ u +ℤ correction_before leaps k
  leap_time_from_count u v k count leap =
      leap.value.2 ∙ ap (λ c. u +ℤ c) (correction_from_count leaps u leap.value.0 k count leap.value.1)

  -- leap times do not fall
  pub leap_time_mono : (u w v v' : ℤ) → u ≤ℤ w → IsLeapTime leaps u v → IsLeapTime leaps w v' → v ≤ℤ v'
  leap_time_mono u w v v' h a b =
      let here = count_exists leaps are u in
      let there = count_exists leaps are w in
      let order = (leap_growth (length leaps) (time_at leaps) (correction_before leaps) steps u w here.0 there.0 h
      here.1 there.1).0 in
      rw (leap_time_from_count u v here.0 here.1 a, leap_time_from_count w v' there.0 there.1 b) order

  -- and they grow by three times the seconds at most
  pub leap_time_speed : (u w v v' : ℤ) → u ≤ℤ w → IsLeapTime leaps u v → IsLeapTime leaps w v'
      → v' ≤ℤ (v +ℤ (w -ℤ u) +ℤ (w -ℤ u) +ℤ (w -ℤ u))
  leap_time_speed u w v v' h a b =
      let here = count_exists leaps are u in
      let there = count_exists leaps are w in
      let speed = (leap_growth (length leaps) (time_at leaps) (correction_before leaps) steps u w here.0 there.0 h
      here.1 there.1).1 in
      omega (arith, ints, leap_time_from_count u v here.0 here.1 a, leap_time_from_count w v' there.0 there.1 b, speed)

  -- a correction that leaves the instants leaves them above
  refused_above : (u : ℤ) (i : ℕ) (l : LeapSecond) → IsReached leaps i l u → ¬ IsInstant (u +ℤ l.correction)
      → pos 9223372036854775807 <ℤ (u +ℤ l.correction)
  refused_above u i l r outside =
      let inside : i < length leaps = omega (arith, slice_get_within leaps i l r.0) in
      let time = time_at-is leaps i l r.0 in
      let low = time_bound (length leaps) (time_at leaps) (correction_before leaps) steps i inside in
      let here = correction_before-suc leaps i l r.0 in
      let next : i + 1 ≡ suc i = omega arith in
      let moved = ap (correction_before leaps) next in
      let step = steps.step i inside in
      above_instants (u +ℤ l.correction) outside (omega (arith, ints, r.1))

  -- where an instant is past those with a leap time, each later one is
  pub past_later : (u w : ℤ) → u ≤ℤ w → IsPastInstants leaps u → IsPastInstants leaps w
  past_later u w h (i, l, r, outside) =
      let above = refused_above u i l r outside in (
        i,
        l,
        (r.0, omega (arith, ints, r.1)),
        λ fits.
            absurd (omega (arith, ints, instant_bounds (w +ℤ l.correction) fits)),
      )

  -- and none is past them within 80000000000000000 seconds of 1970
  pub not_past_within : (u : ℤ) → u ≤ℤ pos 80000000000000000 → ¬ IsPastInstants leaps u
  not_past_within u h (i, l, r, outside) =
      let above = refused_above u i l r outside in
      let inside : i < length leaps = omega (arith, slice_get_within leaps i l r.0) in
      let time = time_at-is leaps i l r.0 in
      let low = time_bound (length leaps) (time_at leaps) (correction_before leaps) steps i inside in
      let here = correction_before-suc leaps i l r.0 in
      let bound = correction_bound (length leaps) (time_at leaps) (correction_before leaps) steps i (omega arith) in
      let next = correction_bound (length leaps) (time_at leaps) (correction_before leaps) steps (suc i)
      (omega arith) in
      absurd (omega (arith, ints, r.1, bound, next))

  pub not_refused_within : (u : ℤ) → ¬ IsBeforeStart leaps u → u ≤ℤ pos 80000000000000000 → ¬ IsLeapTimeRefused leaps u
  not_refused_within u begun h (inl before) = begun before
  not_refused_within u begun h (inr past) = not_past_within u h past

  -- what is not before a truncated start stays so
  pub begun_later : (u w : ℤ) → u ≤ℤ w → ¬ IsBeforeStart leaps u → ¬ IsBeforeStart leaps w
  begun_later u w h begun (l, start, before) = begun (l, start, omega (arith, ints, h, before))

  -- where a truncated start is not ahead, its record is reached
  pub start_reached : (u : ℤ) (k : ℕ) (l : LeapSecond) → IsReachedCount leaps u k → IsStart leaps l
      → ¬ IsBeforeStart leaps u → 0 < k
  start_reached u k l count start begun =
      by_lt_z (u +ℤ l.correction) l.unix_leap_time
      (λ before. absurd (begun (l, start, before)))
      (λ reached. IsReached-below leaps u k 0 l count
      (start.0, omega (arith, ints, correction_at_truncated leaps l start)))

  -- and no leap time is below that of the start
  pub leap_not_below_start : (u v : ℤ) (l : LeapSecond) → IsStart leaps l → IsLeapTime leaps u v → l.unix_leap_time ≤ℤ v
  leap_not_below_start u v l start leap =
      let count = count_exists leaps are u in
      let some = start_reached u count.0 l count.1 start (λ before. leap.not_refused (inl before)) in
      let same : correction_before leaps 1 ≡ correction_before leaps 0 = correction_before-suc leaps 0 l start.0
      ∙ sym (correction_at_truncated leaps l start) in
      let from_start = leap_from_start (length leaps) (time_at leaps) (correction_before leaps) steps u count.0 some
      same count.1 in
      omega (arith, ints, time_at-is leaps 0 l start.0, leap_time_from_count u v count.0 count.1 leap)

  -- the sum of an instant and its correction is one of 64 bits where none is refused
  pub leap_time_fits : (u : ℤ) (k : ℕ) → IsReachedCount leaps u k → IsInstant u → ¬ IsLeapTimeRefused leaps u
      → IsInstant (u +ℤ correction_before leaps k)
  leap_time_fits u zero count fits defined =
      let none = correction_without_start leaps
      (λ l start. absurd (omega (arith, start_reached u zero l count start (λ before. defined (inl before))))) in
      let same : (u +ℤ correction_before leaps zero) ≡ u = omega (arith, ints) in
      rw same fits
  leap_time_fits u (suc k) count fits defined =
      let last = IsReached-at leaps u (suc k) k count (omega arith) in
      by_bounds (u +ℤ correction_before leaps (suc k))
      (λ outside. defined (inr (k, last.0, last.1, λ inside. outside (rw (sym last.2) at inside))))
    where
      by_bounds : (z : ℤ) → ¬ ¬ IsInstant z → IsInstant z
      by_bounds z h =
          by_lt_z z (negsuc 9223372036854775807)
          (λ low. absurd (h (λ inside. absurd (omega (arith, ints, instant_bounds z inside)))))
          (λ low. by_lt_z (pos 9223372036854775807) z
          (λ high. absurd (h (λ inside. absurd (omega (arith, ints, instant_bounds z inside)))))
          (λ high. IsInstant-from_bounds z low high))

  -- no leap time is reached before its effect
  pub least_from_effect : (v u : ℤ) (k : ℕ) → IsTimeCount (length leaps) (time_at leaps) v k
      → IsEffectByCount (time_at leaps) (correction_before leaps) v k u → (w : ℤ) → IsTimeReached leaps v w → u ≤ℤ w
  least_from_effect v u k times wide w reached =
      by_lt_z w u
      (λ before.
      let count = count_exists leaps are w in
      let less = effect_least (length leaps) (time_at leaps) (correction_before leaps) steps v u w k count.0 times wide
      before count.1 in
      absurd (omega (arith, ints, leap_time_from_count w reached.0 count.0 count.1 reached.1, reached.2)))
      (λ h. h)

  -- at its wide effect a leap time is reached, unless that has no leap time
  pub reached_at_effect : (v u : ℤ) (k : ℕ) → IsTimeCount (length leaps) (time_at leaps) v k
      → IsEffectByCount (time_at leaps) (correction_before leaps) v k u → ¬ IsLeapTimeRefused leaps u
      → IsTimeReached leaps v u
  reached_at_effect v u k times wide defined =
      let count = count_exists leaps are u in (
        u +ℤ correction_before leaps count.0,
        IsLeapTime-from_count u count.0 count.1 defined,
        effect_reached
            (length leaps) (time_at leaps) (correction_before leaps) steps v u k count.0 times wide count.1,
      )

  -- where no record's time is up to a leap time, and a truncated start is reached at it, there is no truncated start
  pub no_start_up_to : (v : ℤ) → HasBegunAt leaps v → IsTimeCount (length leaps) (time_at leaps) v 0 → (l : LeapSecond)
      → ¬ IsStart leaps l
  no_start_up_to v begun times l start =
      let inside = slice_get_within leaps 0 l start.0 in
      absurd (omega (
        arith,
        ints,
        begun l start,
        times.later 0 (omega arith) (omega arith),
        time_at-is leaps 0 l start.0,
      ))

  -- at the effect of a leap time that is not before a truncated start, the table has begun
  pub begun_at_effect : (v u : ℤ) (k : ℕ) → HasBegunAt leaps v → IsTimeCount (length leaps) (time_at leaps) v k
      → IsEffectByCount (time_at leaps) (correction_before leaps) v k u → ¬ IsBeforeStart leaps u
  begun_at_effect v u zero begun times wide (l, start, before) = absurd (no_start_up_to v begun times l start)
  begun_at_effect v u (suc k) begun times wide (l, start, before) =
      let index : 0 + k ≡ k = omega arith in
      let down = reached_down (length leaps) (time_at leaps) (correction_before leaps) steps 0 k u
      (omega (arith, times.within)) (rw index (wide.reached k refl)) in
      absurd (omega (arith, ints, down, correction_at_truncated leaps l start, time_at-is leaps 0 l start.0))

  -- the effect of a leap time of 64 bits is not below them
  pub effect_low : (v u : ℤ) (k : ℕ) → HasBegunAt leaps v → negsuc 9223372036854775807 ≤ℤ v
      → IsTimeCount (length leaps) (time_at leaps) v k → IsEffectByCount (time_at leaps) (correction_before leaps) v k u
      → negsuc 9223372036854775807 ≤ℤ u
  effect_low v u k begun low times wide = by_tight wide.tight
    where
      by_count : (k : ℕ) → IsTimeCount (length leaps) (time_at leaps) v k → (u +ℤ correction_before leaps k) ≡ v
          → negsuc 9223372036854775807 ≤ℤ u
      by_count zero times e =
          let none = correction_without_start leaps (no_start_up_to v begun times) in
          omega (arith, ints)
      by_count (suc i) times e =
          let time = time_bound (length leaps) (time_at leaps) (correction_before leaps) steps i
          (omega (arith, times.within)) in
          let bound = correction_bound (length leaps) (time_at leaps) (correction_before leaps) steps
          (suc i) times.within in
          omega (arith, ints, times.up_to i (omega arith), bound)

      by_tight : ((u +ℤ correction_before leaps k) ≡ v)
          ⊎ ((i : ℕ) × (suc i ≡ k) × ((u +ℤ correction_before leaps i) ≡ time_at leaps i))
          → negsuc 9223372036854775807 ≤ℤ u
      by_tight (inl e) = by_count k times e
      by_tight (inr (i, last, e)) =
          let time = time_bound (length leaps) (time_at leaps) (correction_before leaps) steps i
          (omega (arith, times.within)) in
          let bound = correction_bound (length leaps) (time_at leaps) (correction_before leaps) steps i
          (omega (arith, times.within)) in
          omega (arith, ints, bound)

  -- where an effect is reached its leap time is, and not before
  pub effect_fits : (v u w l : ℤ) → IsEffect leaps v u → IsLeapTime leaps w l → (u ≤ℤ w) ↔ (v ≤ℤ l)
  effect_fits v u w l effect leap = (
    (λ from. omega (arith, ints, effect.reached.2, leap_time_mono u w effect.reached.0 l from effect.reached.1 leap)),
    (λ reached. effect.least w (l, leap, reached)),
  )
