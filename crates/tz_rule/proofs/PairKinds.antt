-- Each year has one of 14 kinds, and with the next year one of 21 pair kinds, and each of these occurs.
use Rattle.tz_rule.proofs.Common.{arith, ◌≡◌, ints, pos, ◌∙◌, ℕ, refl, ◌+ℤ◌, ℤ, sym, ◌<◌, ap, ◌+◌, Bool, true, false, ◌%◌, is_leap, Decides-eqb, first_kind, nat_tests, week_day_of_year, ◌&&◌, all_below, eqb, passes_at, year_kind, days_of_years, kind_of, cond, second_kind, year_length, year_length-is, Decides-and, IsPairOf, first_days, is_leap_kind, ltb, week_day_of_kind}
use Rattle.tz_rule.proofs.Weeks.{week_day_of_year-is, week_day_of_year-next, week_day_of_year-moved}
use Rattle.tz_rule.proofs.YearKinds.{any_below, found_below, first_week_day, like_model}

-- a kind determines whether its years are leap, and the week day of their January 1st

pub kind_of-parts : (leap : Bool) (week_day : ℕ) → week_day < 7 → (kind_of leap week_day < 14)
    × (is_leap_kind (kind_of leap week_day) ≡ leap) × (week_day_of_kind (kind_of leap week_day) ≡ week_day)
kind_of-parts true week_day h = (omega arith, grind (arith, nat_tests), omega arith)
kind_of-parts false week_day h = (omega arith, grind (arith, nat_tests), omega arith)

pub year_kind-below : (year : ℤ) → year_kind year < 14
unfolding year_kind
year_kind-below year = (kind_of-parts (is_leap year) (week_day_of_year year) (week_day_of_year-is year).1).0

pub year_kind-leap : (year : ℤ) → is_leap_kind (year_kind year) ≡ is_leap year
unfolding year_kind
year_kind-leap year = (kind_of-parts (is_leap year) (week_day_of_year year) (week_day_of_year-is year).1).1

pub year_kind-week_day : (year : ℤ) → week_day_of_kind (year_kind year) ≡ week_day_of_year year
unfolding year_kind
year_kind-week_day year = (kind_of-parts (is_leap year) (week_day_of_year year) (week_day_of_year-is year).1).2

-- no two leap years follow one another

leap_alone : (n : ℕ) → is_leap (pos n) ≡ true → is_leap (pos (n + 1)) ≡ true → ⊥
unfolding is_leap
leap_alone n here there = grind (arith, nat_tests)

no_leap_after_leap : (year : ℤ) → is_leap year ≡ true → is_leap (year +ℤ pos 1) ≡ true → ⊥
no_leap_after_leap year here there = let like = like_model year in
    leap_alone (1972 + like.0) (sym like.2.leap ∙ here) (sym like.2.next_leap ∙ there)

-- the pair kind of a year and the next one

pair_by : (leap next_leap : Bool) (week_day next_week_day length : ℕ) → week_day < 7
    → next_week_day ≡ (week_day + length) % 7 → length ≡ cond leap 366 365 → (leap ≡ true → next_leap ≡ true → ⊥)
    → (pair : ℕ) × (pair < 21) × (kind_of leap week_day ≡ first_kind pair)
    × (kind_of next_leap next_week_day ≡ second_kind pair) × (length ≡ first_days pair)
unfolding first_kind second_kind first_days
pair_by false false w n l h next days alone =
    (w, omega arith, grind (arith, nat_tests), grind (arith, nat_tests), grind (arith, nat_tests))
pair_by false true w n l h next days alone =
    (7 + w, omega arith, grind (arith, nat_tests), grind (arith, nat_tests), grind (arith, nat_tests))
pair_by true false w n l h next days alone =
    (14 + w, omega arith, grind (arith, nat_tests), grind (arith, nat_tests), grind (arith, nat_tests))
pair_by true true w n l h next days alone = absurd (alone refl refl)

pub pair_of : (year : ℤ) → (pair : ℕ) × IsPairOf year pair
unfolding year_kind
pair_of year =
    let found = pair_by (is_leap year) (is_leap (year +ℤ pos 1)) (week_day_of_year year)
    (week_day_of_year (year +ℤ pos 1)) (year_length year) (week_day_of_year-is year).1 (week_day_of_year-next year)
    (year_length-is year) (no_leap_after_leap year) in
    (found.0, record { below = found.1; first_is = found.2; second_is = found.3; days_are = found.4 })

-- each pair kind is that of some year from 1972 on and the next one

year_of_pair : ℕ → ℕ → Bool
year_of_pair pair index =
    eqb (kind_of (is_leap (pos (1972 + index))) (first_week_day (1972 + index))) (first_kind pair)
    && (eqb (kind_of (is_leap (pos (1973 + index))) (first_week_day (1973 + index))) (second_kind pair)
    && eqb (cond (is_leap (pos (1972 + index))) 366 365) (first_days pair))

all_pairs_occur : all_below (λ pair. any_below (year_of_pair pair) 28) 21 ≡ true
unfolding all_below any_below year_of_pair first_week_day is_leap days_of_years first_kind second_kind first_days
all_pairs_occur = refl

year_kind-model : (n : ℕ) → year_kind (pos n) ≡ kind_of (is_leap (pos n)) (first_week_day n)
unfolding year_kind first_week_day
year_kind-model n = ap (kind_of (is_leap (pos n))) (week_day_of_year-moved (pos n) n 0 (omega (arith, ints)))

pub pair_occurs : (pair : ℕ) → pair < 21 → (year : ℤ) × IsPairOf year pair
unfolding year_of_pair
pair_occurs pair below =
    let found = found_below (year_of_pair pair) 28
    (passes_at (λ pair. any_below (year_of_pair pair) 28) 21 pair all_pairs_occur below) in
    let index = found.0 in
    let first = eqb (kind_of (is_leap (pos (1972 + index))) (first_week_day (1972 + index))) (first_kind pair) in
    let second = eqb (kind_of (is_leap (pos (1973 + index))) (first_week_day (1973 + index))) (second_kind pair) in
    let days = eqb (cond (is_leap (pos (1972 + index))) 366 365) (first_days pair) in
    let means = (Decides-and first (second && days) (Decides-eqb _ _)
    (Decides-and second days (Decides-eqb _ _) (Decides-eqb _ _))).0 found.2 in (
      pos (1972 + index),
      record {
        below = below;
        first_is = year_kind-model (1972 + index) ∙ means.0;
        second_is = ap year_kind (omega (arith, ints)) ∙ year_kind-model (1973 + index) ∙ means.1.0;
        days_are = year_length-is (pos (1972 + index)) ∙ means.1.1;
      },
    )

-- each kind is that of the first year of some pair

pair_from : (kind : ℕ) → kind < 14 → (pair : ℕ) × (pair < 21) × (first_kind pair ≡ kind)
unfolding first_kind
pair_from kind below = by_test (ltb kind 7) refl
  where
    by_test : (b : Bool) → ltb kind 7 ≡ b → (pair : ℕ) × (pair < 21)
        × (cond (ltb pair 14) (pair % 7) (7 + pair % 7) ≡ kind)
    by_test true e = (kind, grind (arith, nat_tests), grind (arith, nat_tests))
    by_test false e = (kind + 7, grind (arith, nat_tests), grind (arith, nat_tests))

pub kind_occurs : (kind : ℕ) → kind < 14 → (year : ℤ) × (year_kind year ≡ kind)
kind_occurs kind below =
    let pair = pair_from kind below in
    let occurs = pair_occurs pair.0 pair.1 in
    (occurs.0, occurs.1.first_is ∙ pair.2)
