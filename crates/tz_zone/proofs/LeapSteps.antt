-- Leap seconds as two functions of their indexes: when each is reached, which correction holds, and where a leap time
-- takes effect.
use Rattle.tz_zone.proofs.Common.{◌≡◌, arith, ℕ, ints, inr, inl, ℤ, ◌<◌, ap, ◌≤ℤ◌, ◌<ℤ◌, pos, ◌-ℤ◌, ◌-◌, ◌≤◌, ◌+ℤ◌, ◌+◌, negsuc, ◌⊎◌, suc, zero, cases_lt, neg_ℤ, ◌*◌}

-- index i has time t i, and c i is the correction before it
pub record AreSteps (n : ℕ) (t c : ℕ → ℤ) : Type 0 where
  pub start : (neg_ℤ (pos 2147483648) ≤ℤ c 0) × (c 0 ≤ℤ pos 2147483648)
  pub first : 0 < n → pos 0 ≤ℤ t 0
  pub step : (i : ℕ) → i < n → (negsuc 0 ≤ℤ (c (i + 1) -ℤ c i)) × ((c (i + 1) -ℤ c i) ≤ℤ pos 1)
  pub rise : (i : ℕ) → i + 1 < n → t i <ℤ t (i + 1)
  pub apart : (i : ℕ) → i + 2 < n → (t i +ℤ pos 2419199) ≤ℤ t (i + 1)

-- index i is reached at u
abbrev pub Reached : (ℕ → ℤ) → (ℕ → ℤ) → ℕ → ℤ → Type 0
Reached t c i u = t i ≤ℤ (u +ℤ c i)

-- just the first k indexes are reached at u
pub record IsCount (n : ℕ) (t c : ℕ → ℤ) (u : ℤ) (k : ℕ) : Type 0 where
  pub within : k ≤ n
  pub reached : (i : ℕ) → i < k → Reached t c i u
  pub beyond : (i : ℕ) → k ≤ i → i < n → (u +ℤ c i) <ℤ t i

module _ (n : ℕ) (t c : ℕ → ℤ) (steps : AreSteps n t c) where
  -- over some indexes corrections change by a second each at most
  corrections_near : (k j : ℕ) → k + j ≤ n → (neg_ℤ (pos j) ≤ℤ (c (k + j) -ℤ c k)) × ((c (k + j) -ℤ c k) ≤ℤ pos j)
  corrections_near k zero h =
      let same : k + 0 ≡ k = omega arith in
      (omega (arith, ints, ap c same), omega (arith, ints, ap c same))
  corrections_near k (suc j) h =
      let next : k + j + 1 ≡ k + suc j = omega arith in
      let before = corrections_near k j (omega arith) in
      let step = steps.step (k + j) (omega arith) in
      (omega (arith, ints, ap c next, before, step), omega (arith, ints, ap c next, before, step))

  -- and they begin in 32 bits
  pub correction_bound : (i : ℕ) → i ≤ n → (neg_ℤ (pos (i + 2147483648)) ≤ℤ c i) × (c i ≤ℤ pos (i + 2147483648))
  correction_bound i h =
      let index : 0 + i ≡ i = omega arith in
      let near = corrections_near 0 i (omega arith) in
      (omega (arith, ints, steps.start, near, ap c index), omega (arith, ints, steps.start, near, ap c index))

  pub times_rise : (i m : ℕ) → i + m < n → (t i +ℤ pos m) ≤ℤ t (i + m)
  times_rise i zero h =
      let same : i + 0 ≡ i = omega arith in
      omega (arith, ints, ap t same)
  times_rise i (suc m) h =
      let next : i + m + 1 ≡ i + suc m = omega arith in
      omega (arith, ints, ap t next, times_rise i m (omega arith), steps.rise (i + m) (omega arith))

  -- times grow by at least four weeks, less a second, but for the last
  times_apart : (k j : ℕ) → k + j + 1 < n → (t k +ℤ pos (2419199 * j)) ≤ℤ t (k + j)
  times_apart k zero h =
      let same : k + 0 ≡ k = omega arith in
      omega (arith, ints, ap t same)
  times_apart k (suc j) h =
      let next : k + j + 1 ≡ k + suc j = omega arith in
      omega (arith, ints, ap t next, times_apart k j (omega arith), steps.apart (k + j) (omega arith))

  pub time_bound : (i : ℕ) → i < n → pos (2419199 * i) ≤ℤ (t i +ℤ pos 2419199)
  time_bound zero h = omega (arith, ints, steps.first h)
  time_bound (suc i) h =
      let index : 0 + i ≡ i = omega arith in
      let next : i + 1 ≡ suc i = omega arith in
      omega (
        arith,
        ints,
        ap t index,
        ap t next,
        times_apart 0 i (omega arith),
        steps.first (omega arith),
        steps.rise i
            (omega arith),
      )

  -- what is reached later is reached after what comes before it
  reached_before : (i : ℕ) (u : ℤ) → i + 1 < n → Reached t c (i + 1) u → Reached t c i u
  reached_before i u h r = omega (arith, ints, steps.rise i h, steps.step i (omega arith))

  pub reached_down : (i m : ℕ) (u : ℤ) → i + m < n → Reached t c (i + m) u → Reached t c i u
  reached_down i zero u h r =
      let same : i + 0 ≡ i = omega arith in
      omega (arith, ints, ap t same, ap c same)
  reached_down i (suc m) u h r =
      let next : i + m + 1 ≡ i + suc m = omega arith in
      reached_down i m u (omega arith) (reached_before (i + m) u (omega arith)
      (omega (arith, ints, ap t next, ap c next)))

  -- counts rise with the instant
  pub count_mono : (u w : ℤ) (k m : ℕ) → u ≤ℤ w → IsCount n t c u k → IsCount n t c w m → k ≤ m
  count_mono u w k m h a b =
      elim (cases_lt m k) [
        | inl less ↦ absurd (omega (arith, ints, a.reached m less, b.beyond m (omega arith) (omega (arith, a.within))))
        | inr more ↦ more
      ]

  -- where the first index leaves the correction as it is, no leap time from there on is below its time
  pub leap_from_start : (w : ℤ) (m : ℕ) → 0 < m → c 1 ≡ c 0 → IsCount n t c w m → t 0 ≤ℤ (w +ℤ c m)
  leap_from_start w zero some same count = absurd (omega arith)
  leap_from_start w (suc zero) some same count = omega (arith, ints, same, count.reached 0 (omega arith))
  leap_from_start w (suc (suc m)) some same count =
      let last : suc m + 1 ≡ suc (suc m) = omega arith in
      let index : 0 + suc m ≡ suc m = omega arith in
      omega (
        arith,
        ints,
        ap c last,
        ap t index,
        count.reached (suc m) (omega arith),
        times_rise 0 (suc m)
            (omega (arith, count.within)),
        steps.step (suc m) (omega (arith, count.within)),
      )

  -- to the next index that is reached the corrections grow by twice the seconds at most
  speed_to : (u w : ℤ) (k j : ℕ) → k + j < n → (u +ℤ c k) <ℤ t k → t (k + j) ≤ℤ (w +ℤ c (k + j))
      → (c (k + j + 1) -ℤ c k) ≤ℤ ((w -ℤ u) +ℤ (w -ℤ u))
  speed_to u w k zero h beyond reached =
      let same : k + 0 ≡ k = omega arith in
      let next : k + 0 + 1 ≡ k + 1 = omega arith in
      omega (arith, ints, ap t same, ap c same, ap c next, steps.step k (omega arith))
  speed_to u w k (suc j) h beyond reached =
      let index : k + j + 1 ≡ k + suc j = omega arith in
      let next : k + suc j + 1 ≡ k + j + 1 + 1 = omega arith in
      let grown = corrections_near k j (omega arith) in
      let apart = times_apart k j (omega arith) in
      let rise = steps.rise (k + j) (omega arith) in
      let step = steps.step (k + j) (omega arith) in
      let last = steps.step (k + j + 1) (omega arith) in
      omega (arith, ints, ap t index, ap c index, ap c next)

  -- the leap time rises with the instant, or stays for one second, and grows by no more than three times the seconds
  pub leap_growth : (u w : ℤ) (k m : ℕ) → u ≤ℤ w → IsCount n t c u k → IsCount n t c w m → ((u +ℤ c k) ≤ℤ (w +ℤ c m))
      × ((c m -ℤ c k) ≤ℤ ((w -ℤ u) +ℤ (w -ℤ u)))
  leap_growth u w k m h a b = by_counts k m (count_mono u w k m h a b) a b
    where
      at_same : (k m : ℕ) → k ≡ m → ((u +ℤ c k) ≤ℤ (w +ℤ c m)) × ((c m -ℤ c k) ≤ℤ ((w -ℤ u) +ℤ (w -ℤ u)))
      at_same k m same = (omega (arith, ints, ap c same), omega (arith, ints, ap c same))

      by_counts : (k m : ℕ) → k ≤ m → IsCount n t c u k → IsCount n t c w m → ((u +ℤ c k) ≤ℤ (w +ℤ c m))
          × ((c m -ℤ c k) ≤ℤ ((w -ℤ u) +ℤ (w -ℤ u)))
      by_counts k zero more a b = at_same k zero (omega arith)
      by_counts k (suc m) more a b =
          elim (cases_lt k (suc m)) [
            | inl less ↦
                let next : m + 1 ≡ suc m = omega arith in
                let last : k + (m - k) + 1 ≡ suc m = omega arith in
                let index : k + (m - k) ≡ m = omega arith in
                let reached = b.reached m (omega arith) in
                let beyond = a.beyond k (omega arith) (omega (arith, b.within)) in
                let rise = times_rise k (m - k) (omega (arith, b.within)) in
                let step = steps.step m (omega (arith, b.within)) in
                let grown = speed_to u w k (m - k) (omega (arith, b.within)) beyond
                (omega (arith, ints, ap t index, ap c index)) in
                (omega (arith, ints, ap c next, ap t index), omega (arith, ints, ap c last))
            | inr more' ↦ at_same k (suc m) (omega arith)
          ]

-- just the first k times are at most v
pub record IsTimeCount (n : ℕ) (t : ℕ → ℤ) (v : ℤ) (k : ℕ) : Type 0 where
  pub within : k ≤ n
  pub up_to : (i : ℕ) → i < k → t i ≤ℤ v
  pub later : (i : ℕ) → k ≤ i → i < n → v <ℤ t i

-- the instant of leap time v: v less the correction, but not before the last leap second is reached
pub record IsEffectByCount (t c : ℕ → ℤ) (v : ℤ) (k : ℕ) (u : ℤ) : Type 0 where
  pub after : v ≤ℤ (u +ℤ c k)
  pub reached : (i : ℕ) → suc i ≡ k → t i ≤ℤ (u +ℤ c i)
  pub tight : ((u +ℤ c k) ≡ v) ⊎ ((i : ℕ) × (suc i ≡ k) × ((u +ℤ c i) ≡ t i))

module _ (n : ℕ) (t c : ℕ → ℤ) (steps : AreSteps n t c) where
  -- at that instant the leap seconds up to v are reached, if not more
  effect_count : (v u : ℤ) (k m : ℕ) → IsTimeCount n t v k → IsEffectByCount t c v k u → IsCount n t c u m → k ≤ m
  effect_count v u k m times wide count =
      elim (cases_lt m k) [
        | inl less ↦
            let last : suc (k - 1) ≡ k = omega arith in
            let index : m + (k - 1 - m) ≡ k - 1 = omega arith in
            let down = reached_down n t c steps m (k - 1 - m) u (omega (arith, times.within))
            (rw index (wide.reached (k - 1) last)) in
            absurd (omega (arith, ints, down, count.beyond m (omega arith) (omega (arith, times.within))))
        | inr more ↦ more
      ]

  -- where an index whose time is after v is reached, leap time v is
  past_time : (v w : ℤ) (k m : ℕ) → IsTimeCount n t v k → k < m → IsCount n t c w m → v ≤ℤ (w +ℤ c m)
  past_time v w k m times less count =
      let last : m - 1 + 1 ≡ m = omega arith in
      omega (
        arith,
        ints,
        ap c last,
        times.later (m - 1) (omega arith) (omega (arith, count.within)),
        count.reached (m - 1)
            (omega arith),
        steps.step (m - 1) (omega (arith, count.within)),
      )

  -- at that instant leap time v is reached
  pub effect_reached : (v u : ℤ) (k m : ℕ) → IsTimeCount n t v k → IsEffectByCount t c v k u → IsCount n t c u m
      → v ≤ℤ (u +ℤ c m)
  effect_reached v u k m times wide count =
      elim (cases_lt k m) [
        | inl less ↦ past_time v u k m times less count
        | inr more ↦
            let same : m ≡ k = omega (arith, effect_count v u k m times wide count) in
            omega (arith, ints, ap c same, wide.after)
      ]

  -- before that instant it is not
  pub effect_least : (v u w : ℤ) (k m : ℕ) → IsTimeCount n t v k → IsEffectByCount t c v k u → w <ℤ u
      → IsCount n t c w m → (w +ℤ c m) <ℤ v
  effect_least v u w k m times wide before count =
      elim (cases_lt m k) [
        | inl less ↦ omega (arith, ints, count.beyond m (omega arith) (omega (arith, times.within)), times.up_to m less)
        | inr more ↦ elim wide.tight [
          | inl e ↦ elim (cases_lt k m) [
            | inl after ↦ absurd (omega (
              arith,
              ints,
              count.reached k after,
              times.later k (omega arith) (omega (arith, count.within)),
            ))
            | inr not_after ↦ let same : m ≡ k = omega arith in omega (arith, ints, ap c same)
          ]
          | inr (i, last, e) ↦ absurd (omega (arith, ints, count.reached i (omega arith)))
        ]
      ]
