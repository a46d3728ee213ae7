-- Week days of days that follow one another.
use Rattle.std.proofs.Common.{◌≡◌, ℕ, ◌+◌, ◌-◌, ◌*◌, ◌/◌, ◌%◌, ◌<◌, ◌≤◌, refl, sym, arith, ℤ, pos, negsuc, ◌+ℤ◌, ◌-ℤ◌, ◌≤ℤ◌, ◌<ℤ◌, ap, ◌∙◌, lit<, ◌⊎◌, inl, inr}
use Rattle.std.proofs.lemmas.Int.{ints, int_rem_euclid_is}
use Rattle.tz_base.specs.Days.{day_number, week_day_of}
use Rattle.tz_base.proofs.DaysOfYears.{day_number-is}

-- weeks that make a day's number one of a natural number
weeks_before : (day : ℤ) → (k : ℕ) × (m : ℕ) × (day +ℤ pos (k * 7) ≡ pos m)
weeks_before (pos n) = (0, n, omega (arith, ints))
weeks_before (negsuc n) = (n + 1, 6 * n + 6, omega (arith, ints))

same_pos : (m n : ℕ) → pos m ≡ pos n → m ≡ n
same_pos m n e = cc

-- the week day of a day by that of another
pub week_day_from : (base day : ℤ) (w i j : ℕ) → week_day_of base ≡ pos w → day +ℤ pos j ≡ base +ℤ pos i
    → week_day_of day ≡ pos ((w + i + 6 * j) % 7)
unfolding week_day_of
week_day_from base day w i j e apart =
    let moved = weeks_before (base +ℤ pos 4 -ℤ pos j) in
    let here = int_rem_euclid_is (base +ℤ pos 4) (pos 7) 7 moved.0 (moved.1 + j) (lit< tt) refl
    (omega (arith, ints, moved.2)) in
    let there = int_rem_euclid_is (day +ℤ pos 4) (pos 7) 7 moved.0 (moved.1 + i) (lit< tt) refl
    (omega (arith, ints, moved.2, apart)) in
    let same : w ≡ (moved.1 + j) % 7 = same_pos w ((moved.1 + j) % 7) (sym e ∙ here) in
    there ∙ ap pos (omega (arith, same))

-- the days of a month from its first one on
pub week_day_in_month : (year : ℤ) (month d w : ℕ) → 1 ≤ d → week_day_of (day_number year month 1) ≡ pos w
    → week_day_of (day_number year month d) ≡ pos ((w + (d - 1)) % 7)
week_day_in_month year month d w h e =
    let apart : day_number year month d +ℤ pos 0 ≡ day_number year month 1 +ℤ pos (d - 1) =
    rw (day_number-is year month d, day_number-is year month 1) (omega (arith, ints)) in
    week_day_from (day_number year month 1) (day_number year month d) w (d - 1) 0 e apart ∙ ap pos (omega arith)

-- two week days by their numbers
pub same_week_day : (day : ℤ) (m n : ℕ) → week_day_of day ≡ pos m → week_day_of day ≡ pos n → m ≡ n
same_week_day day m n e f = same_pos m n (sym e ∙ f)

-- how far the second number is above the first
pub up_to : (a b : ℤ) → a ≤ℤ b → (n : ℕ) × (b ≡ a +ℤ pos n)
up_to a b h = above (b -ℤ a) a (omega (arith, ints)) (omega (arith, ints, h))
  where
    above : (d a : ℤ) → b ≡ a +ℤ d → pos 0 ≤ℤ d → (n : ℕ) × (b ≡ a +ℤ pos n)
    above (pos n) a e h = (n, e)
    above (negsuc n) a e h = (0, omega (arith, ints, h))

-- a week day is below 7
pub week_day-lt : (day : ℤ) (w : ℕ) → week_day_of day ≡ pos w → w < 7
week_day-lt day w e =
    let here = week_day_from day day w 0 0 e (omega (arith, ints)) in
    let same = same_week_day day w _ e here in
    omega (arith, same)

-- which of two days comes first
pub compare : (a b : ℤ) → (a ≤ℤ b) ⊎ (b <ℤ a)
compare a b = by_gap (b -ℤ a) refl
  where
    by_gap : (d : ℤ) → b -ℤ a ≡ d → (a ≤ℤ b) ⊎ (b <ℤ a)
    by_gap (pos n) e = inl (omega (arith, ints, e))
    by_gap (negsuc n) e = inr (omega (arith, ints, e))

-- the first day after another with a week day, which is at most a week later
pub first_after : (day next : ℤ) (week_day : ℕ) → week_day_of next ≡ pos week_day → next ≤ℤ (day +ℤ pos 7)
    → (later : ℤ) → day <ℤ later → week_day_of later ≡ pos week_day → next ≤ℤ later
first_after day next week_day shown soon later after shown' = elim (compare next later) [
  | inl up ↦ up
  | inr down ↦
      let gap = up_to later next (omega (arith, ints, down)) in
      let there = week_day_from later next week_day gap.0 0 shown' (omega (arith, ints, gap.1)) in
      let same = same_week_day next _ _ there shown in
      omega (arith, ints, same, gap.1, after, soon, down, week_day-lt next week_day shown)
]

-- days after a day, by the days of whole weeks to a Sunday
pub day_until : (day late : ℤ) (weeks m week_day : ℕ) → late +ℤ pos 4 ≡ pos (7 * weeks) → week_day < 7
    → pos m ≡ late +ℤ pos week_day -ℤ day → week_day_of (day +ℤ pos (m % 7)) ≡ pos week_day
unfolding week_day_of
day_until day late weeks m week_day sunday below is =
    int_rem_euclid_is (day +ℤ pos (m % 7) +ℤ pos 4) (pos 7) 7 (m / 7) (7 * weeks + week_day) (lit< tt) refl
    (omega (arith, ints, sunday, is))
    ∙ ap pos (omega (arith, below))

-- weeks later in a month, and that each day with the week day is weeks after the first one
pub weeks_later : (year : ℤ) (month first weeks w : ℕ) → week_day_of (day_number year month first) ≡ pos w
    → week_day_of (day_number year month (first + 7 * weeks)) ≡ pos w
weeks_later year month first weeks w e =
    let apart : day_number year month (first + 7 * weeks) +ℤ pos 0 ≡ day_number year month first +ℤ pos (7 * weeks) =
    rw (day_number-is year month (first + 7 * weeks), day_number-is year month first) (omega (arith, ints)) in
    week_day_from (day_number year month first) (day_number year month (first + 7 * weeks)) w (7 * weeks) 0 e apart
    ∙ ap pos (omega (arith, week_day-lt (day_number year month first) w e))

pub weeks_from_first : (year : ℤ) (month first d w : ℕ) → (1 ≤ first) × (first ≤ 7)
    → week_day_of (day_number year month first) ≡ pos w → 1 ≤ d → week_day_of (day_number year month d) ≡ pos w
    → d ≡ first + 7 * ((d - first) / 7)
weeks_from_first year month first d w bound e low e' =
    let apart : day_number year month d +ℤ pos first ≡ day_number year month first +ℤ pos d =
    rw (day_number-is year month d, day_number-is year month first) (omega (arith, ints)) in
    let there = week_day_from (day_number year month first) (day_number year month d) w d first e apart in
    let same = same_week_day (day_number year month d) _ _ there e' in
    omega (arith, same, bound, low, week_day-lt (day_number year month first) w e)
