-- Week days of days that follow one another, and of January 1st.
use Rattle.tz_rule.proofs.Common.{arith, ◌≡◌, ints, pos, ◌∙◌, ℕ, refl, ◌+ℤ◌, ℤ, sym, ◌<◌, ap, ◌+◌, ◌%◌, week_day_of_year, ◌*◌, days_of_years, first_day, first_day-moved, first_day-next, week_day_of, year_length, first_day-period, lit<, int_rem_euclid_is, week_day_of-period, weeks_before}
use Rattle.std.specs.Int.RustNames.{unsigned_abs}

remainder : (day : ℤ) → (m : ℕ) × (week_day_of day ≡ pos (m % 7))
    × ((i : ℕ) → week_day_of (day +ℤ pos i) ≡ pos ((m + i) % 7))
unfolding week_day_of
remainder day =
    let moved = weeks_before (day +ℤ pos 4) in (
      moved.1,
      int_rem_euclid_is (day +ℤ pos 4) (pos 7) 7 moved.0 moved.1 (lit< tt) refl moved.2,
      λ i. int_rem_euclid_is (day +ℤ pos i +ℤ pos 4) (pos 7) 7 moved.0 (moved.1 + i) (lit< tt) refl
          (omega (arith, ints, moved.2)),
    )

pub same_pos : (m n : ℕ) → pos m ≡ pos n → m ≡ n
same_pos m n e = cc

-- this many days later
pub week_day_of-add : (day : ℤ) (w i : ℕ) → week_day_of day ≡ pos w → week_day_of (day +ℤ pos i) ≡ pos ((w + i) % 7)
week_day_of-add day w i e =
    let r = remainder day in
    let same : w ≡ r.0 % 7 = same_pos w (r.0 % 7) (sym e ∙ r.1) in
    r.2 i ∙ ap pos (omega arith)

pub week_day_of_year-is : (year : ℤ) → (week_day_of (first_day year) ≡ pos (week_day_of_year year))
    × (week_day_of_year year < 7)
unfolding week_day_of_year
week_day_of_year-is year =
    let r = remainder (first_day year) in
    let same : unsigned_abs (week_day_of (first_day year)) ≡ r.0 % 7 = ap unsigned_abs r.1 in
    (r.1 ∙ ap pos (sym same), omega arith)

-- the next year begins as many days later as the year has
pub week_day_of_year-next : (year : ℤ) → week_day_of_year (year +ℤ pos 1)
    ≡ (week_day_of_year year + year_length year) % 7
unfolding week_day_of_year
week_day_of_year-next year =
    ap unsigned_abs (ap week_day_of (first_day-next year) ∙ week_day_of-add (first_day year) (week_day_of_year year)
    (year_length year) (week_day_of_year-is year).0)

week_day_of-moved : (day : ℤ) (d k : ℕ) → day +ℤ pos (719528 + 146097 * k) ≡ pos d → week_day_of day ≡ pos ((d + 6) % 7)
unfolding week_day_of
week_day_of-moved day d k e =
    int_rem_euclid_is (day +ℤ pos 4) (pos 7) 7 (102790 + 20871 * k) (d + 6) (lit< tt) refl (omega (arith, ints))

-- by the closed form: n is the year, moved by cycles of 400 years
pub week_day_of_year-moved : (year : ℤ) (n k : ℕ) → year +ℤ pos (400 * k) ≡ pos n
    → week_day_of_year year ≡ (days_of_years n + 6) % 7
unfolding week_day_of_year
week_day_of_year-moved year n k e = ap unsigned_abs (week_day_of-moved (first_day year) (days_of_years n) k
    (first_day-moved year n k e))

-- after 400 years
pub week_day_of_year-period : (year : ℤ) → week_day_of_year (year +ℤ pos 400) ≡ week_day_of_year year
unfolding week_day_of_year
week_day_of_year-period year = ap unsigned_abs (ap week_day_of (first_day-period year 1)
    ∙ week_day_of-period (first_day year) 1)
