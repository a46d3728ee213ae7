-- A list of leap seconds, seen as two functions of its indexes: its leap times and the effects of leap times.
use Rattle.tz_zone.proofs.Common.{◌≡◌, arith, ℕ, ints, refl, sym, inr, inl, length, ℤ, ◌∙◌, ◌<◌, ap, List, ◌≤ℤ◌, Some, ◌<ℤ◌, pos, ◌-ℤ◌, ◌-◌, ◌≤◌, [], ◌+ℤ◌, ◌+◌, by_lt_z, negsuc, LeapSecond, slice_get, slice_get_within, ◌≢◌, false, ◌∷◌, ◌⊎◌, suc, AreLeapSeconds, true, Bool, zero, cases_lt, eqb, IsReached, get_or, correction_before, FitsSigned, cond, slice_get-get_or, IsStart, IsCorrection, get_or_from_slice_get, Follows, IsOneSecond, correction_at, correction_at_start, neg_ℤ, nat_tests, unsigned_abs}
use Rattle.std.specs.Int.{w32}
use Rattle.tz_zone.proofs.LeapSteps.{AreSteps, IsCount, reached_down}

abbrev pub no_leap : LeapSecond
no_leap = record { unix_leap_time = pos 0; correction = pos 0 }

-- the time at an index of the list
unfoldable pub time_at : List LeapSecond → ℕ → ℤ
time_at leaps i = (get_or leaps i no_leap).unix_leap_time

pub time_at-is : (leaps : List LeapSecond) (i : ℕ) (l : LeapSecond) → slice_get leaps i ≡ Some l
    → time_at leaps i ≡ l.unix_leap_time
unfolding time_at
time_at-is leaps i l e = ap (λ (x : LeapSecond). x.unix_leap_time) (get_or_from_slice_get leaps i l no_leap e)

pub correction_before-suc : (leaps : List LeapSecond) (i : ℕ) (l : LeapSecond) → slice_get leaps i ≡ Some l
    → correction_before leaps (suc i) ≡ l.correction
correction_before-suc leaps i l e = ap correction_at e

-- the item at an index of the list
pub item_at : (leaps : List LeapSecond) (i : ℕ) → i < length leaps → (l : LeapSecond) × (slice_get leaps i ≡ Some l)
item_at leaps i h = (get_or leaps i no_leap, slice_get-get_or leaps i no_leap h)

one_second : (c : ℤ) → IsOneSecond c → (c ≡ pos 1) ⊎ (c ≡ negsuc 0)
one_second (pos n) e = inl (ap pos e)
one_second (negsuc n) e = inr (ap negsuc (let h : n ≡ 0 = omega arith in h))

one_second_bounds : (c : ℤ) → IsOneSecond c → (negsuc 0 ≤ℤ c) × (c ≤ℤ pos 1)
one_second_bounds c is = elim (one_second c is) [
  | inl e ↦ (omega (arith, ints), omega (arith, ints))
  | inr e ↦ (omega (arith, ints), omega (arith, ints))
]

-- before a first record the correction is 0 where it is of one second, and otherwise its own
abbrev pub IsFirstStep : LeapSecond → ℤ → Type 0
IsFirstStep l c = ((c ≡ pos 0) × IsOneSecond l.correction) ⊎ ((c ≡ l.correction) × ¬ IsOneSecond l.correction)

pub first_step : (l : LeapSecond) → IsFirstStep l (correction_at_start (Some l))
first_step l = by_test (eqb (unsigned_abs l.correction) 1) refl
  where
    by_test : (b : Bool) → b ≡ eqb (unsigned_abs l.correction) 1 → IsFirstStep l (cond b (pos 0) l.correction)
    by_test true e = inl (refl, grind (arith, nat_tests))
    by_test false e = inr (refl, grind (arith, nat_tests))

first_step_at : (leaps : List LeapSecond) (l : LeapSecond) → slice_get leaps 0 ≡ Some l
    → IsFirstStep l (correction_before leaps 0)
first_step_at leaps l at = rw (sym (ap correction_at_start at)) at (first_step l)

-- where there is no truncated start, the correction before the first record is 0
pub correction_without_start : (leaps : List LeapSecond) → ((l : LeapSecond) → ¬ IsStart leaps l)
    → correction_before leaps 0 ≡ pos 0
correction_without_start [] none = refl
correction_without_start (l ∷ rest) none = elim (first_step l) [
  | inl (e, is) ↦ e
  | inr (e, other) ↦ absurd (none l (refl, other))
]

-- at a truncated start it is the first record's own
pub correction_at_truncated : (leaps : List LeapSecond) (l : LeapSecond) → IsStart leaps l
    → correction_before leaps 0 ≡ l.correction
correction_at_truncated leaps l (at, other) = elim (first_step_at leaps l at) [
  | inl (e, is) ↦ absurd (other is)
  | inr (e, other) ↦ e
]

correction_bounds : (z : ℤ) → FitsSigned w32 z → (neg_ℤ (pos 2147483648) ≤ℤ z) × (z ≤ℤ pos 2147483648)
correction_bounds (pos n) fits = (omega (arith, ints, fits.sfits), omega (arith, ints, fits.sfits))
correction_bounds (negsuc n) fits = (omega (arith, ints, fits.sfits), omega (arith, ints, fits.sfits))

start_bounds : (leaps : List LeapSecond) → AreLeapSeconds leaps → (neg_ℤ (pos 2147483648) ≤ℤ correction_before leaps 0)
    × (correction_before leaps 0 ≤ℤ pos 2147483648)
start_bounds [] are = (omega (arith, ints), omega (arith, ints))
start_bounds (l ∷ rest) are = elim (first_step l) [
  | inl (e, is) ↦ (omega (arith, ints), omega (arith, ints))
  | inr (e, other) ↦ let bounds = correction_bounds l.correction (are.first l refl).1 in
      (omega (arith, ints), omega (arith, ints))
]

-- a record that follows another one leaves the correction, or is of one second
step_between : (leaps : List LeapSecond) (i : ℕ) (l next : LeapSecond) → Follows leaps i l next
    → (negsuc 0 ≤ℤ (next.correction -ℤ l.correction)) × ((next.correction -ℤ l.correction) ≤ℤ pos 1)
step_between leaps i l next follows = by_difference (next.correction -ℤ l.correction) refl
  where
    far : (next.correction ≢ l.correction) → IsOneSecond (next.correction -ℤ l.correction)
    far other = (follows.1 (λ expiry. other expiry.1)).1

    by_difference : (d : ℤ) → d ≡ next.correction -ℤ l.correction → (negsuc 0 ≤ℤ d) × (d ≤ℤ pos 1)
    by_difference (pos zero) e = (omega (arith, ints), omega (arith, ints))
    by_difference (pos (suc n)) e = rw e (one_second_bounds (next.correction -ℤ l.correction)
        (far (λ same. absurd (omega (arith, ints)))))
    by_difference (negsuc n) e = rw e (one_second_bounds (next.correction -ℤ l.correction)
        (far (λ same. absurd (omega (arith, ints)))))

pub AreSteps-from_leaps : (leaps : List LeapSecond) → AreLeapSeconds leaps
    → AreSteps (length leaps) (time_at leaps) (correction_before leaps)
AreSteps-from_leaps leaps are = record {
  start = start_bounds leaps are;
  first = λ h.
      let item = item_at leaps 0 h in
      rw (time_at-is leaps 0 item.0 item.1) (are.first item.0 item.1).0;
  step = step;
  rise = λ i h.
      let item = item_at leaps i (omega arith) in
      let next = item_at leaps (i + 1) h in
      rw (time_at-is leaps i item.0 item.1, time_at-is leaps (i + 1) next.0 next.1)
      (are.apart i item.0 next.0 item.1 next.1).0;
  apart = λ i h.
      let item = item_at leaps i (omega arith) in
      let next = item_at leaps (i + 1) (omega arith) in
      rw (time_at-is leaps i item.0 item.1, time_at-is leaps (i + 1) next.0 next.1)
      ((are.apart i item.0 next.0 item.1 next.1).1 (λ expiry. omega (arith, expiry.0))).0;
}
  where
    step : (i : ℕ) → i < length leaps → (negsuc 0 ≤ℤ (correction_before leaps (i + 1) -ℤ correction_before leaps i))
        × ((correction_before leaps (i + 1) -ℤ correction_before leaps i) ≤ℤ pos 1)
    step zero h =
        let item = item_at leaps 0 h in
        let here = correction_before-suc leaps 0 item.0 item.1 in
        elim (first_step_at leaps item.0 item.1) [
          | inl (e, is) ↦ let bounds = one_second_bounds item.0.correction is in
              (omega (arith, ints), omega (arith, ints))
          | inr (e, other) ↦ (omega (arith, ints), omega (arith, ints))
        ]
    step (suc i) h =
        let before = item_at leaps i (omega arith) in
        let same : i + 1 ≡ suc i = omega arith in
        let item = item_at leaps (suc i) h in
        let bounds = step_between leaps i before.0 item.0 (are.apart i before.0 item.0 before.1 (rw same item.1)) in
        let here = correction_before-suc leaps (suc i) item.0 item.1 in
        let last = correction_before-suc leaps i before.0 before.1 in
        let index : suc i + 1 ≡ suc (suc i) = omega arith in
        let moved = ap (correction_before leaps) index in
        (omega (arith, ints), omega (arith, ints))

-- the count of leap seconds reached
abbrev pub IsReachedCount : List LeapSecond → ℤ → ℕ → Type 0
IsReachedCount leaps u k = IsCount (length leaps) (time_at leaps) (correction_before leaps) u k

pub IsReached-below : (leaps : List LeapSecond) (u : ℤ) (k i : ℕ) (l : LeapSecond) → IsReachedCount leaps u k
    → IsReached leaps i l u → i < k
IsReached-below leaps u k i l count r =
    elim (cases_lt i k) [
      | inl h ↦ h
      | inr h ↦
          let beyond = count.beyond i h (slice_get_within leaps i l r.0) in
          let time = time_at-is leaps i l r.0 in
          absurd (omega (arith, ints, r.1))
    ]

pub IsReached-at : (leaps : List LeapSecond) (u : ℤ) (k i : ℕ) → IsReachedCount leaps u k → i < k
    → (l : LeapSecond) × IsReached leaps i l u × (correction_before leaps (suc i) ≡ l.correction)
IsReached-at leaps u k i count h =
    let item = item_at leaps i (omega (arith, count.within)) in
    let reached = count.reached i h in
    let time = time_at-is leaps i item.0 item.1 in
    (item.0, (item.1, omega (arith, ints)), correction_before-suc leaps i item.0 item.1)

-- the correction is that before the first leap second that is not reached
pub IsCorrection-from_count : (leaps : List LeapSecond) (u : ℤ) (k : ℕ) → IsReachedCount leaps u k
    → IsCorrection leaps u (correction_before leaps k)
IsCorrection-from_count leaps u zero count =
    inl (refl, λ i l r. omega (arith, IsReached-below leaps u zero i l count r))
IsCorrection-from_count leaps u (suc k) count =
    let last = IsReached-at leaps u (suc k) k count (omega arith) in
    inr (k, last.0, last.1, last.2, λ j later h r. omega (arith, IsReached-below leaps u (suc k) j later count r))

pub correction_from_count : (leaps : List LeapSecond) (u x : ℤ) (k : ℕ) → IsReachedCount leaps u k
    → IsCorrection leaps u x → x ≡ correction_before leaps k
correction_from_count leaps u x zero count (inl (e, none)) = e
correction_from_count leaps u x (suc k) count (inl (e, none)) =
    let last = IsReached-at leaps u (suc k) k count (omega arith) in
    absurd (none k last.0 last.1)
correction_from_count leaps u x k count (inr (i, l, r, e, later)) =
    let below = IsReached-below leaps u k i l count r in
    elim (cases_lt (suc i) k) [
      | inl h ↦
          let next = IsReached-at leaps u k (suc i) count h in
          absurd (later (suc i) next.0 (omega arith) next.1)
      | inr h ↦
          let same : suc i ≡ k = omega arith in
          e ∙ sym (correction_before-suc leaps i l r.0) ∙ ap (correction_before leaps) same
    ]

-- every instant has a count
pub count_exists : (leaps : List LeapSecond) → AreLeapSeconds leaps → (u : ℤ) → (k : ℕ) × IsReachedCount leaps u k
count_exists leaps are u = from_top (length leaps) (omega arith) (λ i low high. absurd (omega arith))
  where
    steps : AreSteps (length leaps) (time_at leaps) (correction_before leaps)
    steps = AreSteps-from_leaps leaps are

    from_top : (m : ℕ) → m ≤ length leaps → ((i : ℕ) → m ≤ i → i < length leaps
        → (u +ℤ correction_before leaps i) <ℤ time_at leaps i) → (k : ℕ) × IsReachedCount leaps u k
    from_top zero h beyond = (
      0,
      record { within = omega arith; reached = λ i low. absurd (omega arith); beyond = beyond },
    )
    from_top (suc m) h beyond =
        by_lt_z (u +ℤ correction_before leaps m) (time_at leaps m)
        (λ not_yet. from_top m (omega arith) (λ i low high.
        elim (cases_lt m i) [
          | inl above ↦ beyond i above high
          | inr here ↦ let same : i ≡ m = omega arith in rw same not_yet
        ]))
        (λ r. (
          suc m,
          record {
            within = h;
            reached = λ i low.
                let index : i + (m - i) ≡ m = omega arith in
                reached_down (length leaps) (time_at leaps) (correction_before leaps) steps i (m - i) u (omega arith)
                (rw index r);
            beyond = beyond;
          },
        ))

-- The partition point is the count
pub IsReachedCount-from_point : (leaps : List LeapSecond) → AreLeapSeconds leaps → (u : ℤ) (k : ℕ) → k ≤ length leaps
    → ((index : ℕ) → index + 1 ≡ k → (l : LeapSecond) × IsReached leaps index l u)
    → (k < length leaps → ¬ ((l : LeapSecond) × IsReached leaps k l u)) → IsReachedCount leaps u k
IsReachedCount-from_point leaps are u k within before after = record {
  within = within;
  reached = λ i h.
      let last = before (k - 1) (omega arith) in
      let time = time_at-is leaps (k - 1) last.0 last.1.0 in
      let index : i + (k - 1 - i) ≡ k - 1 = omega arith in
      reached_down (length leaps) (time_at leaps) (correction_before leaps) steps i (k - 1 - i) u (omega arith)
      (rw index (omega (arith, ints, last.1.1)));
  beyond = λ i low high.
      by_lt_z (u +ℤ correction_before leaps i) (time_at leaps i) (λ h. h) (λ r.
      let index : k + (i - k) ≡ i = omega arith in
      let down = reached_down (length leaps) (time_at leaps) (correction_before leaps) steps k (i - k) u (omega arith)
      (rw index r) in
      let item = item_at leaps k (omega arith) in
      let time = time_at-is leaps k item.0 item.1 in
      absurd (after (omega arith) (item.0, (item.1, omega (arith, ints)))));
}
  where
    steps : AreSteps (length leaps) (time_at leaps) (correction_before leaps)
    steps = AreSteps-from_leaps leaps are

-- the count from what its clauses say
pub IsReachedCount-from_items : (leaps : List LeapSecond) (u : ℤ) (k : ℕ) → k ≤ length leaps
    → ((i : ℕ) (l : LeapSecond) → i < k → slice_get leaps i ≡ Some l → IsReached leaps i l u)
    → ((i : ℕ) (l : LeapSecond) → IsReached leaps i l u → i < k) → IsReachedCount leaps u k
IsReachedCount-from_items leaps u k within reached beyond = record {
  within = within;
  reached = λ i h.
      let item = item_at leaps i (omega arith) in
      let time = time_at-is leaps i item.0 item.1 in
      omega (arith, ints, (reached i item.0 h item.1).1);
  beyond = λ i low high.
      by_lt_z (u +ℤ correction_before leaps i) (time_at leaps i) (λ h. h) (λ r.
      let item = item_at leaps i high in
      let time = time_at-is leaps i item.0 item.1 in
      absurd (omega (arith, beyond i item.0 (item.1, omega (arith, ints)))));
}

pub IsReached-from_count : (leaps : List LeapSecond) (u : ℤ) (k i : ℕ) (l : LeapSecond) → IsReachedCount leaps u k
    → i < k → slice_get leaps i ≡ Some l → IsReached leaps i l u
IsReached-from_count leaps u k i l count h at =
    let reached = count.reached i h in
    let time = time_at-is leaps i l at in
    (at, omega (arith, ints))
