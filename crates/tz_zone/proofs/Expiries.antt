-- Before an expiry a table of leap seconds has the leap times that it has with it.
use Rattle.tz_zone.proofs.Common.{◌≡◌, arith, ℕ, ints, refl, sym, inr, inl, length, ℤ, ◌∙◌, subst, ◌<◌, ap, List, ◌≤◌, [], ◌+ℤ◌, ◌+◌, LeapSecond, slice_get_within, same_Some, ◌∷◌, ◌⊎◌, suc, AreLeapSeconds, zero, IsInstant, cases_lt, IsLeapTimeRefused, IsPastInstants, IsReached, IsLeapTime, correction_before, ◌++◌, IsCorrection, ExpiresAt, correction_at, correction_at_start, ◌↔◌, get_or_append_left, length-append}
use Rattle.std.proofs.Common.{slice_get}
use Rattle.tz_zone.proofs.LeapLists.{no_leap, time_at, correction_before-suc, IsReachedCount, IsReached-at, IsReached-below, IsCorrection-from_count, correction_from_count, count_exists}

index_in_front : (leaps : List LeapSecond) (last : LeapSecond) (i : ℕ) → i < length leaps
    → slice_get (leaps ++ last ∷ []) i ≡ slice_get leaps i
index_in_front [] last i h = absurd (omega arith)
index_in_front (l ∷ leaps) last zero h = refl
index_in_front (l ∷ leaps) last (suc i) h = index_in_front leaps last i (omega arith)

time_in_front : (leaps : List LeapSecond) (last : LeapSecond) (i : ℕ) → i < length leaps
    → time_at (leaps ++ last ∷ []) i ≡ time_at leaps i
unfolding time_at
time_in_front leaps last i h = ap (λ (x : LeapSecond). x.unix_leap_time)
    (get_or_append_left leaps (last ∷ []) no_leap i h)

module _ (leaps : List LeapSecond) (expiry : LeapSecond) (time : ℤ) (are : AreLeapSeconds (leaps ++ expiry ∷ []))
    (expires : ExpiresAt (leaps ++ expiry ∷ []) time) where
  abbrev whole : List LeapSecond
  whole = leaps ++ expiry ∷ []

  -- the record before the expiry is the last of the others
  last_is : length leaps ≡ suc expires.0
  last_is = omega (arith, length-append leaps (expiry ∷ []), expires.5.0)

  correction_in_front : (k : ℕ) → k ≤ length leaps → correction_before whole k ≡ correction_before leaps k
  correction_in_front zero h = ap correction_at_start (index_in_front leaps expiry 0 (omega (arith, last_is)))
  correction_in_front (suc k) h = ap correction_at (index_in_front leaps expiry k (omega arith))

  -- after the expiry the correction is that before it
  correction_at_end : correction_before whole (suc (length leaps)) ≡ correction_before whole (length leaps)
  correction_at_end =
      let index : length leaps ≡ expires.0 + 1 = omega (arith, last_is) in
      correction_before-suc whole (length leaps) expires.2 (ap (slice_get whole) index ∙ expires.4)
      ∙ expires.5.1
      ∙ sym (correction_before-suc whole expires.0 expires.1 expires.3)
      ∙ sym (ap (correction_before whole) last_is)

  to_front : (u : ℤ) (i : ℕ) (l : LeapSecond) → i < length leaps → IsReached whole i l u → IsReached leaps i l u
  to_front u i l inside r = (
    sym (index_in_front leaps expiry i inside) ∙ r.0,
    omega (arith, ints, r.1, correction_in_front i (omega arith)),
  )

  from_front : (u : ℤ) (i : ℕ) (l : LeapSecond) → IsReached leaps i l u → IsReached whole i l u
  from_front u i l r =
      let inside : i < length leaps = slice_get_within leaps i l r.0 in
      (index_in_front leaps expiry i inside ∙ r.0, omega (arith, ints, r.1, correction_in_front i (omega arith)))

  count_in_front : (u : ℤ) (k m : ℕ) → IsReachedCount whole u k → m ≤ k → m ≤ length leaps
      → ((i : ℕ) → m ≤ i → i < length leaps → k ≤ i) → IsReachedCount leaps u m
  count_in_front u k m count less within none = record {
    within = within;
    reached = λ i below. omega (
      arith,
      ints,
      count.reached i (omega arith),
      time_in_front leaps expiry i (omega arith),
      correction_in_front i
          (omega arith),
    );
    beyond = λ i from inside. omega (
      arith,
      ints,
      count.beyond i (none i from inside)
          (omega (arith, length-append leaps (expiry ∷ []))),
      time_in_front leaps expiry i inside,
      correction_in_front i
          (omega arith),
    );
  }

  -- how many records are reached, with the expiry and without it, and that the correction is the same
  both_counts : (u : ℤ) → (k : ℕ) × (m : ℕ) × IsReachedCount whole u k × IsReachedCount leaps u m
      × (correction_before whole k ≡ correction_before leaps m)
  both_counts u = by_end count.0 count.1 (cases_lt (length leaps) count.0)
    where
      count : (k : ℕ) × IsReachedCount whole u k
      count = count_exists whole are u

      by_end : (k : ℕ) → IsReachedCount whole u k → (length leaps < k) ⊎ (k ≤ length leaps)
          → (k : ℕ) × (m : ℕ) × IsReachedCount whole u k × IsReachedCount leaps u m
          × (correction_before whole k ≡ correction_before leaps m)
      by_end k all (inl past) =
          let end : k ≡ suc (length leaps) = omega (arith, all.within, length-append leaps (expiry ∷ [])) in (
            k,
            length leaps,
            all,
            count_in_front u k (length leaps) all (omega arith) (omega arith) (λ i from inside. absurd (omega arith)),
            ap (correction_before whole) end ∙ correction_at_end ∙ correction_in_front (length leaps) (omega arith),
          )
      by_end k all (inr inside) = (
        k,
        k,
        all,
        count_in_front u k k all (omega arith) inside (λ i from within. from),
        correction_in_front k
            inside,
      )

  past_in_front : (u : ℤ) → IsPastInstants whole u → IsPastInstants leaps u
  past_in_front u (i, l, r, outside) = by_index (cases_lt i (length leaps))
    where
      by_index : (i < length leaps) ⊎ (length leaps ≤ i) → IsPastInstants leaps u
      by_index (inl inside) = (i, l, to_front u i l inside r, outside)
      by_index (inr at_end) =
          let count = count_exists whole are u in
          let below = IsReached-below whole u count.0 i l count.1 r in
          let within : i < length whole = slice_get_within whole i l r.0 in
          let index : i ≡ expires.0 + 1 = omega (arith, last_is, length-append leaps (expiry ∷ [])) in
          let before = IsReached-at whole u count.0 expires.0 count.1 (omega arith) in
          let same : before.0 ≡ expires.1 = same_Some before.0 expires.1 (sym before.1.0 ∙ expires.3) in
          let end : l ≡ expires.2 = same_Some l expires.2 (sym r.0 ∙ ap (slice_get whole) index ∙ expires.4) in
          let correction : l.correction ≡ before.0.correction = ap (λ x. x.correction) end ∙ expires.5.1
          ∙ sym (ap (λ x. x.correction) same) in (
            expires.0,
            before.0,
            to_front u expires.0 before.0 (omega (arith, last_is)) before.1,
            λ fits. outside
                (subst (λ c. IsInstant (u +ℤ c)) (sym correction) fits),
          )

  refused_in_front : (u : ℤ) → IsLeapTimeRefused whole u → IsLeapTimeRefused leaps u
  refused_in_front u (inl (l, start, before)) =
      inl (l, (sym (index_in_front leaps expiry 0 (omega (arith, last_is))) ∙ start.0, start.1), before)
  refused_in_front u (inr past) = inr (past_in_front u past)

  refused_with_expiry : (u : ℤ) → IsLeapTimeRefused leaps u → IsLeapTimeRefused whole u
  refused_with_expiry u (inl (l, start, before)) =
      inl (l, (index_in_front leaps expiry 0 (omega (arith, last_is)) ∙ start.0, start.1), before)
  refused_with_expiry u (inr (i, l, r, outside)) = inr (i, l, from_front u i l r, outside)

  pub same_leap_time : (u v : ℤ) → IsLeapTime whole u v ↔ IsLeapTime leaps u v
  same_leap_time u v =
      let counts = both_counts u in
      let without = IsCorrection-from_count leaps u counts.1 counts.3 in
      let with = IsCorrection-from_count whole u counts.0 counts.2 in (
        (λ leap. record {
          not_refused = λ refused. leap.not_refused (refused_with_expiry u refused);
          value = (
            leap.value.0,
            subst (IsCorrection leaps u)
                (sym (correction_from_count whole u leap.value.0 counts.0 counts.2 leap.value.1 ∙ counts.4))
                without,
            leap.value.2,
          );
        }),
        (λ leap. record {
          not_refused = λ refused. leap.not_refused (refused_in_front u refused);
          value = (
            leap.value.0,
            subst (IsCorrection whole u)
                (sym (correction_from_count leaps u leap.value.0 counts.1 counts.3 leap.value.1 ∙ sym counts.4))
                with,
            leap.value.2,
          );
        }),
      )
