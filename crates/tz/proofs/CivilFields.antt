-- Each reading has civil fields.
use Rattle.tz.proofs.Common.{arith, refl, ◌≡◌, subst, ◌∙◌, ints, inr, sym, inl, ap, ℕ, ◌<◌, ◌+◌, pos, ℤ, Fields, ◌≤◌, ◌-ℤ◌, ◌*◌, ◌+ℤ◌, ◌-◌, ◌%◌, ◌/◌, negsuc, cases_lt, is_leap, month_length, month_length-le, IsCivil, IsDateOf, civil_from_parts, day_number-is, first_day, first_day-period, is_leap-period, months_length}
use Rattle.tz_base.specs.Cycles.{days_of_march_years, march_month, march_month_day}
use Rattle.tz_base.proofs.MarchYears.{year_of_century_bound, march_year_is, last_day_is_leap}
use Rattle.tz_base.proofs.DatesOfDays.{date_before_january, date_from_january}

-- the century of a day that is counted from a March 1st, and its day and its year in that century
abbrev century : ℕ → ℕ
century n = (4 * n + 3) / 146097

abbrev day_of_century : ℕ → ℕ
day_of_century n = (4 * n + 3) % 146097 / 4

abbrev year_of_century : ℕ → ℕ
year_of_century n = (4 * day_of_century n + 3) / 1461

abbrev march_year : ℕ → ℕ
march_year n = 100 * century n + year_of_century n

abbrev march_day : ℕ → ℕ
march_day n = (4 * day_of_century n + 3) % 1461 / 4

-- the date of a day that is counted from January 1st of the year -2147484000
date_of_day : (day : ℕ) → 128565 ≤ day → (year : ℤ) × (month : ℕ) × (month_day : ℕ)
    × IsDateOf (pos day -ℤ pos 784353144398) year month month_day
date_of_day day low =
    let n = day - 60 in
    let found : days_of_march_years (march_year (day - 60)) + march_day (day - 60) ≡ day - 60 =
    march_year_is (day - 60) (century (day - 60)) (day_of_century (day - 60)) (year_of_century (day - 60)) refl refl
    refl (year_of_century_bound (day - 60)) in
    elim (cases_lt (march_day (day - 60)) 306) [
      | inl early ↦ (
        pos (march_year (day - 60)) -ℤ pos 2147484000,
        march_month (march_day (day - 60)),
        march_month_day (march_day (day - 60)) + 1,
        date_before_january (march_year (day - 60)) (march_day (day - 60)) day
            (pos (march_year (day - 60)) -ℤ pos 2147484000) found low early (omega (arith, ints)),
      )
      | inr late ↦ (
        pos (march_year (day - 60) + 1) -ℤ pos 2147484000,
        march_month (march_day (day - 60)) - 12,
        march_month_day (march_day (day - 60)) + 1,
        date_from_january (march_year (day - 60)) (march_day (day - 60)) day
            (pos (march_year (day - 60) + 1) -ℤ pos 2147484000) found low late (omega arith)
            (last_day_is_leap (day - 60) (century (day - 60)) (day_of_century (day - 60)) (year_of_century (day - 60))
            refl refl refl (year_of_century_bound (day - 60)))
            (omega (arith, ints)),
      )
    ]

civil_of_moved : (x : ℤ) (moved n : ℕ) → pos moved ≡ x +ℤ pos 67768111675987200 → 128565 ≤ moved / 86400
    → n < 1000000000 → (f : Fields) × IsCivil x n f
civil_of_moved x moved n at low part =
    let date = date_of_day (moved / 86400) low in (
      record {
        year = date.0;
        month = date.1;
        month_day = date.2;
        hour = moved % 86400 / 3600;
        minute = moved % 86400 % 3600 / 60;
        second = moved % 86400 % 60;
        nanoseconds = n;
      },
      civil_from_parts x moved date.0 date.1 date.2 n at date.3 part (month_length-le (is_leap date.0) date.1),
    )

-- some cycles of 400 years before a reading the same fields are read, in a year so much earlier
civil_cycles_before : (x : ℤ) (k n : ℕ) (f : Fields) → IsCivil (x +ℤ pos (12622780800 * k)) n f
    → IsCivil x n (record f { year = f.year -ℤ pos (400 * k) })
civil_cycles_before x k n f civil =
    let r = civil.valid.in_range in
    let year = f.year -ℤ pos (400 * k) in
    let same : (f.year -ℤ pos (400 * k)) +ℤ pos (400 * k) ≡ f.year = omega (arith, ints) in
    let leap : is_leap (f.year -ℤ pos (400 * k)) ≡ is_leap f.year = sym (is_leap-period (f.year -ℤ pos (400 * k)) k)
    ∙ ap is_leap same in
    let first : first_day f.year ≡ first_day (f.year -ℤ pos (400 * k)) +ℤ pos (146097 * k) =
    sym (ap first_day same) ∙ first_day-period (f.year -ℤ pos (400 * k)) k in
    record {
      valid = record {
        in_range = record {
          month = r.month;
          month_day = r.month_day;
          hour = r.hour;
          minute = r.minute;
          second = r.second;
          nanoseconds =
              r.nanoseconds;
        };
        in_month = subst (λ b. f.month_day ≤ month_length b f.month) (sym leap) civil.valid.in_month;
      };
      below_60 = civil.below_60;
      reads = omega (
        arith,
        ints,
        civil.reads,
        day_number-is f.year f.month f.month_day,
        day_number-is (f.year -ℤ pos (400 * k))
            f.month f.month_day,
        first,
        (ap (λ b. months_length b (f.month - 1)) leap),
      );
      nanoseconds_are = civil.nanoseconds_are;
    }

pub civil_exists : (x : ℤ) (n : ℕ) → n < 1000000000 → (f : Fields) × IsCivil x n f
civil_exists (pos m) n part = civil_of_moved (pos m) (m + 67768111675987200) n (omega (arith, ints)) (omega arith) part
civil_exists (negsuc m) n part =
    let later = civil_of_moved (negsuc m +ℤ pos (12622780800 * (m + 1))) (12622780799 * (m + 1) + 67768111675987200) n
    (omega (arith, ints)) (omega arith) part in (
      record later.0 { year = later.0.year -ℤ pos (400 * (m + 1)) },
      civil_cycles_before (negsuc m)
          (m + 1) n later.0 later.1,
    )
