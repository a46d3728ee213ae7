-- Each year has the kind of one of 1972 to 1999, and so has the year after it.
use Rattle.tz_rule.proofs.Common.{arith, ◌≡◌, ints, pos, ◌∙◌, ℕ, refl, ◌+ℤ◌, ℤ, sym, ◌<◌, ap, ◌+◌, Bool, true, false, ◌%◌, suc, zero, is_leap, Decides-eqb, week_day_of_year, ◌&&◌, all_below, eqb, passes_at, Decides-beq, days_of_years, ◌/◌, Decides-and, Decides-below_or, beq, is_leap-moved, ◌||◌, moved_together}
use Rattle.tz_rule.proofs.Weeks.{week_day_of_year-moved}

-- two years are alike, with the years after them: both are leap or not, and begin on one week day
pub record IsAlike (x y : ℤ) : Type 0 where
  pub leap : is_leap x ≡ is_leap y
  pub next_leap : is_leap (x +ℤ pos 1) ≡ is_leap (y +ℤ pos 1)
  pub week_day : week_day_of_year x ≡ week_day_of_year y

-- a number below a bound at which a test passes
unfoldable pub any_below : (ℕ → Bool) → ℕ → Bool
any_below test zero = false
any_below test (suc n) = test n || any_below test n

pub found_below : (test : ℕ → Bool) (n : ℕ) → any_below test n ≡ true → (k : ℕ) × (k < n) × (test k ≡ true)
unfolding any_below
found_below test n = (Decides-below_or test (λ k. test k ≡ true) (any_below test) (λ k. (λ e. e, λ e. e)) refl
    (λ _. refl) n).0

unfoldable pub first_week_day : ℕ → ℕ
first_week_day n = (days_of_years n + 6) % 7

-- the test of the index of a year in its 400 years against a year from 1972 on
is_like : ℕ → ℕ → Bool
is_like n index =
    beq (is_leap (pos n)) (is_leap (pos (1972 + index)))
    && (beq (is_leap (pos (n + 1))) (is_leap (pos (1973 + index))) && eqb (first_week_day n)
    (first_week_day (1972 + index)))

all_are_like : all_below (λ n. any_below (is_like n) 28) 400 ≡ true
unfolding all_below any_below is_like first_week_day is_leap days_of_years
all_are_like = refl

leap_in_cycle : (n : ℕ) → is_leap (pos (n % 400)) ≡ is_leap (pos n)
leap_in_cycle n = is_leap-moved (pos (n % 400)) n (n / 400) (omega (arith, ints))

next_leap_in_cycle : (n : ℕ) → is_leap (pos (n % 400 + 1)) ≡ is_leap (pos (n + 1))
next_leap_in_cycle n = is_leap-moved (pos (n % 400 + 1)) (n + 1) (n / 400) (omega (arith, ints))

week_day_in_cycle : (n : ℕ) → first_week_day (n % 400) ≡ first_week_day n
unfolding first_week_day days_of_years
week_day_in_cycle n = omega arith

alike_from_test : (n index : ℕ) → is_like n index ≡ true → (is_leap (pos n) ≡ is_leap (pos (1972 + index)))
    × (is_leap (pos (n + 1)) ≡ is_leap (pos (1973 + index))) × (first_week_day n ≡ first_week_day (1972 + index))
unfolding is_like
alike_from_test n index h =
    let parts = (Decides-and (beq (is_leap (pos n)) (is_leap (pos (1972 + index)))) _
    (Decides-beq (is_leap (pos n)) (is_leap (pos (1972 + index))))
    (Decides-and (beq (is_leap (pos (n + 1))) (is_leap (pos (1973 + index))))
    (eqb (first_week_day n) (first_week_day (1972 + index)))
    (Decides-beq (is_leap (pos (n + 1))) (is_leap (pos (1973 + index))))
    (Decides-eqb (first_week_day n) (first_week_day (1972 + index))))).0 h in
    (parts.0, parts.1.0, parts.1.1)

pub like_model : (year : ℤ) → (index : ℕ) × (index < 28) × IsAlike year (pos (1972 + index))
unfolding first_week_day
like_model year =
    let moved = moved_together year year in
    let k = moved.0 in
    let n = moved.1 in
    let found = found_below (is_like (n % 400)) 28 (passes_at (λ n. any_below (is_like n) 28) 400 (n % 400) all_are_like
    (omega arith)) in
    let index = found.0 in
    let means = alike_from_test (n % 400) index found.2 in
    let after : 1973 + index ≡ 1972 + index + 1 = omega arith in (
      index,
      found.1,
      record {
        leap = is_leap-moved year n k moved.3 ∙ sym (leap_in_cycle n) ∙ means.0;
        next_leap = is_leap-moved (year +ℤ pos 1) (n + 1) k (omega (arith, ints, moved.3)) ∙ sym (next_leap_in_cycle n)
            ∙ means.1 ∙ ap (λ y. is_leap (pos y)) after;
        week_day = week_day_of_year-moved year n k moved.3 ∙ sym (week_day_in_cycle n) ∙ means.2
            ∙ sym (week_day_of_year-moved (pos (1972 + index)) (1972 + index) 0 (omega (arith, ints)));
      },
    )
