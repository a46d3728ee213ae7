-- The month and the day of each day of a year that begins on March 1st, by computing them all.
use Rattle.std.proofs.Common.{◌≡◌, ℕ, ◌+◌, ◌-◌, ◌<◌, ◌≤◌, Bool, true, false, cond, eqb, ltb, leb, ◌&&◌, List, get_or, slice_index_or, refl, arith, ℤ, pos}
use Rattle.std.specs.Ordering.{int_eq}
use Rattle.std.proofs.lemmas.Bool.Decides.{nat_tests, Decides-int_eq}
use Rattle.tz_base.specs.declared.calendar.TheConstants.{DAYS_FROM_MARCH}
use Rattle.tz_base.specs.declared.constants.TheConstants.{CUMUL_DAYS_IN_MONTHS_LEAP_YEAR, CUMUL_DAYS_IN_MONTHS_NORMAL_YEAR}
use Rattle.tz_base.proofs.TestsBelow.{all_below, passes_at}
use Rattle.tz_base.specs.Cycles.{march_month, march_month_day}
use Rattle.tz_base.specs.Days.{month_length, months_length}

-- the months' tables
is_right_entry : Bool → List ℤ → ℕ → Bool
is_right_entry leap table index = int_eq (slice_index_or table index (pos 0)) (pos (months_length leap index)) && leb
    (months_length leap index) 335

abbrev pub months_table : Bool → List ℤ
months_table leap = cond leap CUMUL_DAYS_IN_MONTHS_LEAP_YEAR CUMUL_DAYS_IN_MONTHS_NORMAL_YEAR

right_entries : (leap : Bool) → all_below (is_right_entry leap (months_table leap)) 12 ≡ true
unfolding all_below is_right_entry month_length months_length
right_entries false = refl
right_entries true = refl

pub months_length-entry : (leap : Bool) (index : ℕ) → index < 12
    → (slice_index_or (months_table leap) index (pos 0) ≡ pos (months_length leap index))
    × (months_length leap index ≤ 335)
unfolding is_right_entry
months_length-entry leap index h =
    let right = passes_at (is_right_entry leap (months_table leap)) 12 index (right_entries leap) h in
    ((Decides-int_eq _ _).0 (grind (arith, nat_tests)), grind (arith, nat_tests))

pub months_length-bound : (leap : Bool) (index : ℕ) → index < 12 → months_length leap index ≤ 335
months_length-bound leap index h = (months_length-entry leap index h).1

-- the table of days from March 1st, where January and February come last
is_right_march_place : Bool → ℕ → Bool
is_right_march_place leap place =
    leb (get_or DAYS_FROM_MARCH place 0) 337
    && eqb (months_length leap place + cond (ltb place 2) 306 0) (get_or DAYS_FROM_MARCH place 0 + cond (ltb place 2) 0
    (cond leap 60 59))

right_march : (leap : Bool) → all_below (is_right_march_place leap) 12 ≡ true
unfolding all_below is_right_march_place month_length months_length
right_march false = refl
right_march true = refl

-- how many days there are between March 1st and the first of the month at a place, counted from January
pub record IsFromMarch (leap : Bool) (place days : ℕ) : Type 0 where
  pub early : place < 2 → days ≡ 306 + months_length leap place
  pub late : 2 ≤ place → days + cond leap 60 59 ≡ months_length leap place
  pub bound : days ≤ 337

pub days_from_march-is : (leap : Bool) (place : ℕ) → place < 12
    → IsFromMarch leap place (get_or DAYS_FROM_MARCH place 0)
unfolding is_right_march_place
days_from_march-is leap place h =
    let right = passes_at (is_right_march_place leap) 12 place (right_march leap) h in
    record {
      early = λ small. grind (arith, nat_tests);
      late = λ large. grind (arith, nat_tests);
      bound = grind (arith, nat_tests);
    }

-- a day before January is in the month that is found, after the months before it
is_right_before_january : Bool → ℕ → Bool
is_right_before_january leap day =
    let m = march_month day in
    let d = march_month_day day in
    leb 3 m && leb m 12 && eqb (months_length leap (m - 1) + d) (cond leap 60 59 + day) && ltb d (month_length leap m)

-- a day from January 1st on likewise; the last day is one of leap years alone
is_right_from_january : Bool → ℕ → Bool
is_right_from_january leap day =
    let m = march_month (306 + day) in
    let d = march_month_day (306 + day) in
    leb 13 m && leb m 14 && eqb (months_length leap (m - 13) + d) day && (ltb d (month_length leap (m - 12)))

before_january : (leap : Bool) → all_below (is_right_before_january leap) 306 ≡ true
unfolding all_below is_right_before_january march_month march_month_day month_length months_length
before_january false = refl
before_january true = refl

all_from_january : (leap : Bool) → all_below (is_right_from_january leap) (cond leap 60 59) ≡ true
unfolding all_below is_right_from_january march_month march_month_day month_length months_length
all_from_january false = refl
all_from_january true = refl

-- what the month and the day of a day are, before January
pub record IsBeforeJanuary (leap : Bool) (day : ℕ) : Type 0 where
  pub low : 3 ≤ march_month day
  pub high : march_month day ≤ 12
  pub place : months_length leap (march_month day - 1) + march_month_day day ≡ cond leap 60 59 + day
  pub inside : march_month_day day < month_length leap (march_month day)

-- and from January 1st on
pub record IsFromJanuary (leap : Bool) (day : ℕ) : Type 0 where
  pub low : 13 ≤ march_month day
  pub high : march_month day ≤ 14
  pub place : months_length leap (march_month day - 13) + march_month_day day + 306 ≡ day
  pub inside : march_month_day day < month_length leap (march_month day - 12)

pub month_before_january : (leap : Bool) (day : ℕ) → day < 306 → IsBeforeJanuary leap day
unfolding is_right_before_january
month_before_january leap day h =
    let right = passes_at (is_right_before_january leap) 306 day (before_january leap) h in
    grind (arith, nat_tests)

days_from_january : (leap : Bool) (day : ℕ) → day < 60 → (day ≡ 59 → leap ≡ true) → day < cond leap 60 59
days_from_january true day h last = h
days_from_january false day h last = grind arith

IsFromJanuary-from_test : (leap : Bool) (d day : ℕ) → 306 + d ≡ day → is_right_from_january leap d ≡ true
    → IsFromJanuary leap day
unfolding is_right_from_january
IsFromJanuary-from_test leap d day same right = rw (← same) (grind (arith, nat_tests))

pub month_from_january : (leap : Bool) (day : ℕ) → 306 ≤ day → day ≤ 365 → (day ≡ 365 → leap ≡ true)
    → IsFromJanuary leap day
month_from_january leap day low high last =
    let within = days_from_january leap (day - 306) (omega arith) (λ e. last (omega arith)) in
    IsFromJanuary-from_test leap (day - 306) day (omega arith) (passes_at (is_right_from_january leap) (cond leap 60 59)
    (day - 306) (all_from_january leap) within)
