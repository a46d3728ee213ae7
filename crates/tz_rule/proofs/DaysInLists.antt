-- The day that a rule day is in a year, in closed form.
use Rattle.tz_rule.proofs.Common.{arith, ◌≡◌, ints, pos, ◌∙◌, ℕ, refl, ◌+ℤ◌, ℤ, ◌<◌, ap, ◌+◌, ◌-◌, Bool, true, false, List, ◌≤◌, ◌%◌, get_or, suc, zero, is_leap, Decides-eqb, length, nat_tests, not, ◌&&◌, [], all_below, eqb, passes_at, ◌∷◌, first_day, IsMonthWeek, MonthWeek, MonthWeekDay, cond, month_length-ge, month_length-le, rule_day, same_from_decides, week_day_in_month, week_day_of, year_length-is, Decides-int_eq, Decides-like, Julian0WithLeap, Julian1WithoutLeap, day_number, day_number-is, ltb, month_length, months_length, day_at, days_from, get_or-map, is_leap_day, julian_year_day, length-map, map}
use Rattle.std.specs.List.{filter}
use Rattle.std.specs.Ordering.{int_eq}
use Rattle.tz_rule.proofs.Weeks.{week_day_of-add, same_pos}

-- this many numbers from k on
numbers_from : ℕ → ℕ → List ℕ
numbers_from k zero = []
numbers_from k (suc n) = k ∷ numbers_from (k + 1) n

keep_both : (f : ℕ → ℤ) (b : Bool) (x : ℤ) (xs : List ℤ) (i : ℕ) (is : List ℕ) → x ≡ f i → xs ≡ map f is
    → cond b (x ∷ xs) xs ≡ map f (cond b (i ∷ is) is)
keep_both f true x xs i is e h = cc
keep_both f false x xs i is e h = h

-- what is kept of days in a row is what is kept of their numbers
filter-days_from : (day : ℤ) (p : ℤ → Bool) (q : ℕ → Bool) → ((i : ℕ) → p (day +ℤ pos i) ≡ q i) → (n k : ℕ) (d : ℤ)
    → d ≡ day +ℤ pos k → filter p (days_from d n) ≡ map (λ i. day +ℤ pos i) (filter q (numbers_from k n))
unfolding days_from numbers_from
filter-days_from day p q same zero k d e = refl
filter-days_from day p q same (suc n) k d e =
    let rest = filter-days_from day p q same n (k + 1) (d +ℤ pos 1) (omega (arith, ints)) in
    rw (ap p e ∙ same k) (keep_both (λ i. day +ℤ pos i) (q k) d (filter p (days_from (d +ℤ pos 1) n)) k
    (filter q (numbers_from (k + 1) n)) e rest)

-- the number at an index of a list is the one that is meant
is_entry : List ℕ → ℕ → ℕ → Bool
is_entry kept at index = ltb at (length kept) && eqb (get_or kept at 0) index

-- the day at an index of those that are kept
day_at-kept : (day : ℤ) (p : ℤ → Bool) (q : ℕ → Bool) (n at index : ℕ) → ((i : ℕ) → p (day +ℤ pos i) ≡ q i)
    → is_entry (filter q (numbers_from 0 n)) at index ≡ true → day_at (filter p (days_from day n)) at ≡ day +ℤ pos index
unfolding is_entry
day_at-kept day p q n at index same is =
    let kept = filter q (numbers_from 0 n) in
    rw (filter-days_from day p q same n 0 day (omega (arith, ints))) (get_or-map (λ i. day +ℤ pos i) kept at 0 (pos 0)
    (grind (arith, nat_tests)) ∙ ap (λ i. day +ℤ pos i) (grind (arith, nat_tests)))

length-kept : (day : ℤ) (p : ℤ → Bool) (q : ℕ → Bool) (n : ℕ) → ((i : ℕ) → p (day +ℤ pos i) ≡ q i)
    → length (filter p (days_from day n)) ≡ length (filter q (numbers_from 0 n))
length-kept day p q n same =
    ap length (filter-days_from day p q same n 0 day (omega (arith, ints))) ∙ length-map (filter q (numbers_from 0 n))
    (λ i. day +ℤ pos i)

-- the days that are not February 29th

is_kept : Bool → ℕ → Bool
is_kept leap i = not (leap && eqb i 59)

all_kept : (leap : Bool) → all_below (λ n. is_entry (filter (is_kept leap) (numbers_from 0 (cond leap 366 365))) n
    (julian_year_day leap (n + 1))) 365 ≡ true
unfolding all_below is_entry is_kept numbers_from julian_year_day
all_kept false = refl
all_kept true = refl

january : months_length true 1 ≡ 31
unfolding months_length month_length
january = refl

leap_day : (year : ℤ) → is_leap year ≡ true → day_number year 2 29 ≡ first_day year +ℤ pos 59
leap_day year leap = day_number-is year 2 29 ∙ rw (leap, january) (omega (arith, ints))

leap_day-at : (year : ℤ) (i : ℕ) → not (is_leap_day year (first_day year +ℤ pos i)) ≡ is_kept (is_leap year) i
unfolding is_kept
leap_day-at year i = by_leap (is_leap year) (day_number year 2 29) (leap_day year)
  where
    by_leap : (leap : Bool) (day : ℤ) → (leap ≡ true → day ≡ first_day year +ℤ pos 59)
        → not (leap && int_eq (first_day year +ℤ pos i) day) ≡ not (leap && eqb i 59)
    by_leap false day e = refl
    by_leap true day e = ap not (same_from_decides _ _ (Decides-like (int_eq (first_day year +ℤ pos i) day)
        (λ h. omega (arith, ints, e refl)) (λ h. omega (arith, ints, e refl))
        (Decides-int_eq (first_day year +ℤ pos i) day)) (Decides-eqb i 59))

pub rule_day-julian : (n : ℕ) (year : ℤ) → 1 ≤ n → n ≤ 365
    → rule_day (Julian1WithoutLeap n) year ≡ first_day year +ℤ pos (julian_year_day (is_leap year) n)
unfolding rule_day
rule_day-julian n year low high =
    let leap = is_leap year in
    let same : n - 1 + 1 ≡ n = omega arith in
    rw year_length-is
    (day_at-kept (first_day year) (λ day. not (is_leap_day year day)) (is_kept leap) (cond leap 366 365) (n - 1)
    (julian_year_day leap n) (leap_day-at year)
    (rw same at (passes_at (λ n. is_entry (filter (is_kept leap) (numbers_from 0 (cond leap 366 365))) n
    (julian_year_day leap (n + 1))) 365 (n - 1) (all_kept leap) (omega arith))))

pub rule_day-zero_based : (n : ℕ) (year : ℤ) → rule_day (Julian0WithLeap n) year ≡ first_day year +ℤ pos n
unfolding rule_day
rule_day-zero_based n year = refl

-- the week days of a month
has_week_day : ℕ → ℕ → ℕ → Bool
has_week_day first week_day i = eqb ((first + i) % 7) week_day

-- the index that is asked for among the days with the week day
kept_at : ℕ → ℕ → ℕ → ℕ → ℕ
kept_at days first week_day week = cond (eqb week 5)
    (length (filter (has_week_day first week_day) (numbers_from 0 days)) - 1) (week - 1)

unfoldable fits_month : ℕ → ℕ → ℕ → ℕ → Bool
fits_month days first week_day week = is_entry (filter (has_week_day first week_day) (numbers_from 0 days))
    (kept_at days first week_day week) (week_day_in_month first days week week_day)

unfoldable fits_all : ℕ → Bool
fits_all days = all_below (λ first. all_below (λ week_day. all_below (λ week. fits_month days first week_day (week + 1))
    5) 7) 7

all_fit : all_below (λ n. fits_all (28 + n)) 4 ≡ true
unfolding all_below fits_all fits_month is_entry kept_at has_week_day numbers_from week_day_in_month
all_fit = refl

fits_month-true : (days first week_day week : ℕ) → 28 ≤ days → days ≤ 31 → first < 7 → week_day < 7 → 1 ≤ week
    → week ≤ 5 → fits_month days first week_day week ≡ true
unfolding fits_all
fits_month-true days first week_day week low high f d w w' =
    let more : 28 + (days - 28) ≡ days = omega arith in
    let same_week : week - 1 + 1 ≡ week = omega arith in
    let length = rw more at (passes_at (λ n. fits_all (28 + n)) 4 (days - 28) all_fit (omega arith)) in
    let by_first = passes_at (λ first. all_below
    (λ week_day. all_below (λ week. fits_month days first week_day (week + 1)) 5) 7) 7 first length f in
    let by_week_day = passes_at (λ week_day. all_below (λ week. fits_month days first week_day (week + 1)) 5) 7 week_day
    by_first d in
    rw same_week at (passes_at (λ week. fits_month days first week_day (week + 1)) 5 (week - 1) by_week_day
    (omega arith))

week_day-at : (day : ℤ) (first week_day i : ℕ) → week_day_of day ≡ pos first
    → int_eq (week_day_of (day +ℤ pos i)) (pos week_day) ≡ has_week_day first week_day i
unfolding has_week_day
week_day-at day first week_day i e =
    rw (week_day_of-add day first i e)
    (same_from_decides _ _ (Decides-like (int_eq (pos ((first + i) % 7)) (pos week_day))
    (λ h. same_pos ((first + i) % 7) week_day h) (ap pos) (Decides-int_eq (pos ((first + i) % 7)) (pos week_day)))
    (Decides-eqb ((first + i) % 7) week_day))

pub rule_day-month : (d : MonthWeek) (year : ℤ) (first : ℕ) → IsMonthWeek d
    → week_day_of (day_number year d.month 1) ≡ pos first → first < 7
    → rule_day (MonthWeekDay d) year ≡ day_number year d.month 1 +ℤ pos
    (week_day_in_month first (month_length (is_leap year) d.month) d.week d.week_day)
unfolding rule_day kept_at fits_month
rule_day-month d year first valid e below =
    let day = day_number year d.month 1 in
    let leap = is_leap year in
    let days = month_length leap d.month in
    let fits = fits_month-true days first d.week_day d.week (month_length-ge leap d.month)
    (month_length-le leap d.month) below (omega (arith, valid.week_day_is)) valid.week_is.0 valid.week_is.1 in
    let test = λ (i : ℕ). week_day-at day first d.week_day i e in
    let kept = has_week_day first d.week_day in
    rw (length-kept day (λ day. int_eq (week_day_of day) (pos d.week_day)) kept days test)
    (day_at-kept day (λ day. int_eq (week_day_of day) (pos d.week_day)) kept days (kept_at days first d.week_day d.week)
    (week_day_in_month first days d.week d.week_day) test fits)

-- the index of a week day is in its month
pub week_day_in_month-bound : (first days week week_day : ℕ) → 28 ≤ days → days ≤ 31 → 1 ≤ week → week ≤ 5
    → week_day_in_month first days week week_day < days
unfolding week_day_in_month
week_day_in_month-bound first days week week_day low high w w' = grind (arith, nat_tests)

pub julian_year_day-bound : (leap : Bool) (n : ℕ) → 1 ≤ n → n ≤ 365 → julian_year_day leap n ≤ 365
unfolding julian_year_day
julian_year_day-bound false n low high = omega arith
julian_year_day-bound true n low high = grind (arith, nat_tests)
