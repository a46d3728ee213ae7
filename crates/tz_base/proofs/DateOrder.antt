-- Day numbers rise with the dates, so that a day has one date, and a reading one list of civil fields.
use Rattle.std.proofs.Common.{◌-ℤ◌, ◌*ℤ◌, ◌≡◌, ℕ, zero, suc, ◌+◌, ◌-◌, ◌*◌, ◌<◌, ◌≤◌, inl, inr, Bool, refl, sym, ap, ◌∙◌, arith, lit<, ℤ, pos, negsuc, ◌+ℤ◌, ◌≤ℤ◌, ◌<ℤ◌}
use Rattle.std.proofs.lemmas.Int.{ints, int_rem_euclid_is}
use Rattle.tz_base.specs.Cycles.{days_of_years}
use Rattle.tz_base.specs.Days.{is_leap, month_length, months_length, first_day, day_number, IsDay, IsEarlierDate, week_day_of}
use Rattle.tz_base.specs.Fields.{IsValid, IsCivil, day_of, fields_of}
use Rattle.tz_base.specs.declared.fields.Fields.{Fields}
use Rattle.tz_base.proofs.YearStarts.{first_day-moved, is_leap-moved}
use Rattle.tz_base.proofs.DaysOfYears.{day_number-is, day_in_year}

-- some cycles of 400 years make two years not negative
pub moved_together : (a b : ℤ) → (k m n : ℕ) × (a +ℤ pos (400 * k) ≡ pos m) × (b +ℤ pos (400 * k) ≡ pos n)
moved_together (pos a) (pos b) = (0, a, b, omega (arith, ints), omega (arith, ints))
moved_together (pos a) (negsuc b) = (b + 1, a + 400 * (b + 1), 399 * (b + 1), omega (arith, ints), omega (arith, ints))
moved_together (negsuc a) (pos b) = (a + 1, 399 * (a + 1), b + 400 * (a + 1), omega (arith, ints), omega (arith, ints))
moved_together (negsuc a) (negsuc b) = (
  a + b + 1,
  399 * a + 400 * b + 399,
  400 * a + 399 * b + 399,
  omega (arith, ints),
  omega (arith, ints),
)

days_of_years-mono : (m n : ℕ) → m ≤ n → days_of_years m + 365 * (n - m) ≤ days_of_years n
unfolding days_of_years
days_of_years-mono m n h = omega arith

-- the years between have at least 365 days each
pub first_day-mono : (a b : ℤ) → a ≤ℤ b → (first_day a +ℤ pos 365 *ℤ (b -ℤ a)) ≤ℤ first_day b
first_day-mono a b up =
    let moved = moved_together a b in
    let first = first_day-moved a moved.1 moved.0 moved.3 in
    let second = first_day-moved b moved.2 moved.0 moved.4 in
    let rise = days_of_years-mono moved.1 moved.2 (omega (arith, ints, moved.3, moved.4)) in
    omega (arith, ints, moved.3, moved.4)

months_length-mono : (leap : Bool) (a n : ℕ) → months_length leap a ≤ months_length leap (a + n)
unfolding months_length
months_length-mono leap a zero = omega (arith, ap (months_length leap) (let e : a + 0 ≡ a = omega arith in e))
months_length-mono leap a (suc n) =
    let next : a + suc n ≡ suc (a + n) = omega arith in
    omega (arith, months_length-mono leap a n, ap (months_length leap) next)

-- later months begin after the month's last day
months_length-after : (leap : Bool) (m m' : ℕ) → 1 ≤ m → m < m'
    → months_length leap (m - 1) + month_length leap m ≤ months_length leap (m' - 1)
unfolding months_length
months_length-after leap m m' low h =
    let last : suc (m - 1) ≡ m = omega arith in
    let place : suc (m - 1) + (m' - 1 - m) ≡ m' - 1 = omega arith in
    let length = ap (month_length leap) last in
    omega (arith, months_length-mono leap (suc (m - 1)) (m' - 1 - m), ap (months_length leap) place)

pub gap_between : (a b : ℤ) → a <ℤ b → (n : ℕ) × (a +ℤ pos 1 +ℤ pos n ≡ b)
gap_between (pos a) (pos b) h = (b - a - 1, omega (arith, ints))
gap_between (pos a) (negsuc b) h = absurd (omega (arith, ints))
gap_between (negsuc a) (pos b) h = (a + b, omega (arith, ints))
gap_between (negsuc a) (negsuc b) h = (a - b - 1, omega (arith, ints))

-- an earlier date has a smaller number
pub day_number-mono : (y : ℤ) (m d : ℕ) (y' : ℤ) (m' d' : ℕ) → IsDay y m d → IsDay y' m' d'
    → IsEarlierDate y m d y' m' d' → day_number y m d <ℤ day_number y' m' d'
day_number-mono y m d y' m' d' day day' (inl year) =
    let low = day_in_year y m d day.month_is.0 day.month_is.1 day.month_day_is.0 day.month_day_is.1 in
    let high = day_in_year y' m' d' day'.month_is.0 day'.month_is.1 day'.month_day_is.0 day'.month_day_is.1 in
    omega (arith, ints, first_day-mono (y +ℤ pos 1) y' (omega (arith, ints, year)))
day_number-mono y m d y' m' d' day day' (inr (same, inl month)) =
    let leap = ap is_leap same in
    let first = ap first_day same in
    let after = months_length-after (is_leap y) m m' day.month_is.0 month in
    let place = ap (λ b. months_length b (m' - 1)) leap in
    rw (day_number-is y m d, day_number-is y' m' d') (omega (arith, ints, day.month_day_is.1, day'.month_day_is.0))
day_number-mono y m d y' m' d' day day' (inr (same, inr (month, later))) =
    let leap = ap is_leap same in
    let first = ap first_day same in
    let place : months_length (is_leap y) (m - 1) ≡ months_length (is_leap y') (m' - 1) = cc in
    rw (day_number-is y m d, day_number-is y' m' d') (omega (arith, ints))

-- numbers of which neither is below the other are one
one : (a b : ℕ) → ¬ (a < b) → ¬ (b < a) → a ≡ b
one a b f g = grind arith

one_z : (a b : ℤ) → ¬ (a <ℤ b) → ¬ (b <ℤ a) → a ≡ b
one_z a b f g = grind (arith, ints)

-- one date for each day: neither of the two is earlier than the other
pub date_unique : (y : ℤ) (m d : ℕ) (y' : ℤ) (m' d' : ℕ) → IsDay y m d → IsDay y' m' d'
    → day_number y m d ≡ day_number y' m' d' → (y ≡ y') × (m ≡ m') × (d ≡ d')
date_unique y m d y' m' d' day day' e =
    let f : IsEarlierDate y m d y' m' d' → ⊥ =
    λ h. absurd (omega (arith, ints, day_number-mono y m d y' m' d' day day' h)) in
    let g : IsEarlierDate y' m' d' y m d → ⊥ =
    λ h. absurd (omega (arith, ints, day_number-mono y' m' d' y m d day' day h)) in
    let year : y ≡ y' = one_z y y' (λ h. f (inl h)) (λ h. g (inl h)) in
    let month : m ≡ m' = one m m' (λ h. f (inr (year, inl h))) (λ h. g (inr (sym year, inl h))) in
    (year, month, one d d' (λ h. f (inr (year, inr (month, h)))) (λ h. g (inr (sym year, inr (sym month, h)))))

-- the day of civil fields
pub valid_day : (f : Fields) → IsValid f → IsDay f.year f.month f.month_day
valid_day f valid = record {
  month_is = valid.in_range.month;
  month_day_is = (valid.in_range.month_day.0, valid.in_month);
}

same_fields : (f g : Fields) → f.year ≡ g.year → f.month ≡ g.month → f.month_day ≡ g.month_day → f.hour ≡ g.hour
    → f.minute ≡ g.minute → f.second ≡ g.second → f.nanoseconds ≡ g.nanoseconds → f ≡ g
same_fields f g year month month_day hour minute second nanoseconds =
    let same : fields_of f.year f.month f.month_day f.hour f.minute f.second f.nanoseconds
    ≡ fields_of g.year g.month g.month_day g.hour g.minute g.second g.nanoseconds = cc in same

-- one list of civil fields for each reading
pub civil_unique : (x : ℤ) (n : ℕ) (f g : Fields) → IsCivil x n f → IsCivil x n g → f ≡ g
civil_unique x n f g c c' =
    let a = c.valid.in_range in
    let b = c'.valid.in_range in
    let day : day_of f ≡ day_of g = omega (
      arith,
      ints,
      c.reads,
      c'.reads,
      c.below_60,
      c'.below_60,
      a.hour,
      a.minute,
      b.hour,
      b.minute,
    ) in
    let time : 3600 * f.hour + 60 * f.minute + f.second ≡ 3600 * g.hour + 60 * g.minute + g.second =
    omega (arith, ints, c.reads, c'.reads) in
    let date = date_unique f.year f.month f.month_day g.year g.month g.month_day (valid_day f c.valid)
    (valid_day g c'.valid) day in
    let hour : f.hour ≡ g.hour = omega (arith, c.below_60, c'.below_60, a.minute, b.minute) in
    same_fields f g date.0 date.1 date.2 hour (omega (arith, c.below_60, c'.below_60)) (omega arith)
    (c.nanoseconds_are ∙ sym c'.nanoseconds_are)

pub is_leap-period : (year : ℤ) (k : ℕ) → is_leap (year +ℤ pos (400 * k)) ≡ is_leap year
is_leap-period year k =
    let moved = moved_together year year in
    is_leap-moved (year +ℤ pos (400 * k)) (moved.1 + 400 * k) moved.0 (omega (arith, ints, moved.3))
    ∙ sym (is_leap-moved (pos moved.1) (moved.1 + 400 * k) k refl)
    ∙ sym (is_leap-moved year moved.1 moved.0 moved.3)

pub first_day-period : (year : ℤ) (k : ℕ) → first_day (year +ℤ pos (400 * k)) ≡ first_day year +ℤ pos (146097 * k)
first_day-period year k =
    let moved = moved_together year year in
    let first = first_day-moved year (moved.1 + 400 * k) (moved.0 + k) (omega (arith, ints, moved.3)) in
    let later = first_day-moved (year +ℤ pos (400 * k)) (moved.1 + 400 * k) moved.0 (omega (arith, ints, moved.3)) in
    omega (arith, ints)

-- weeks are whole from some day before any two days
pub weeks_before : (day : ℤ) → (k m : ℕ) × (day +ℤ pos (k * 7) ≡ pos m)
weeks_before (pos n) = (0, n, omega (arith, ints))
weeks_before (negsuc n) = (n + 1, 6 * n + 6, omega (arith, ints))

pub week_day_of-period : (day : ℤ) (k : ℕ) → week_day_of (day +ℤ pos (146097 * k)) ≡ week_day_of day
unfolding week_day_of
week_day_of-period day k =
    let moved = weeks_before (day +ℤ pos 4) in
    let later = int_rem_euclid_is (day +ℤ pos (146097 * k) +ℤ pos 4) (pos 7) 7 moved.0 (moved.1 + 146097 * k)
    (lit< tt) refl (omega (arith, ints, moved.2)) in
    let here = int_rem_euclid_is (day +ℤ pos 4) (pos 7) 7 moved.0 moved.1 (lit< tt) refl moved.2 in
    later ∙ ap pos (omega arith) ∙ sym here
