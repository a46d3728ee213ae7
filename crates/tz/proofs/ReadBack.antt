-- What is printed is read: each part of a printed text is what the grammar reads there.
use Rattle.tz.proofs.Common.{arith, refl, ◌≡◌, subst, ◌∙◌, ints, inr, sym, inl, [], ap, ℕ, ◌∷◌, ◌<◌, List, length, ◌+◌, pos, ℤ, Fields, Some, ◌≤◌, ◌++◌, suc, zero, ◌*◌, ◌-◌, ◌%◌, ◌^◌, IsValid, append_assoc, ◌/◌, negsuc, digits_value, cases_lt, fields_of, two_digits, append-nil, decimal, length-append, if◌then◌else◌, IsPair, neg_ℤ, FitsSigned, IsDateTimeText, IsFraction, date, duration_text, eqb-true, is_leap, nine_digits, offset_text, printed_text, time, Ahead, Behind, IsDigits, IsPastTheEnd, IsUtc, IsYear, Utc, duration, last_digits, month_length, nat_tests, offset, signed_decimal, ◌==◌, EndsDigits, IsHours, IsOffset, IsSecond, IsSeconds, date_text, day_of, decimal_is_IsNumeral, seconds_text, time_text, two_digits_or_more, day_number}
use Rattle.std.specs.Prelude.{Bool, true, false}
use Rattle.std.specs.Int.{w32}
use Rattle.tz.specs.UtcConstants.{max_is_utc}
use Rattle.tz.specs.UtcText.{IsUtcText}
use Rattle.tz.proofs.LastDigits.{last_digits_all, last_digits_length, last_digits_value}
use Rattle.tz.proofs.PrintedDigits.{decimal-pairs, length-two_digits, two_digits_or_more-below}

-- no byte between numbers is a digit
hyphen_ends : (rest : List ℕ) → EndsDigits (45 ∷ rest)
hyphen_ends rest digit = absurd (omega (arith, digit))

colon_ends : (rest : List ℕ) → EndsDigits (58 ∷ rest)
colon_ends rest digit = absurd (omega (arith, digit))

-- a printed number is its digits
decimal_digits : (n : ℕ) (rest : List ℕ) → n < 2 ^ 64 → EndsDigits rest → IsDigits (decimal n ++ rest) (decimal n) rest
decimal_digits n rest few ends = record { whole = refl; all_digits = (decimal_is_IsNumeral n few).0.1; ends = ends }

printed_year : (y : ℤ) (rest : List ℕ) → FitsSigned w32 y → EndsDigits rest → IsYear (signed_decimal y ++ rest) y rest
printed_year (pos n) rest fits ends =
    let few : n < 2 ^ 64 = omega (arith, ints, fits) in
    let value = (decimal_is_IsNumeral n few).1 in
    (decimal n, inr (ap decimal (sym value)), fits, inl (decimal_digits n rest few ends, ap pos (sym value)))
printed_year (negsuc n) rest fits ends =
    let few : suc n < 2 ^ 64 = omega (arith, ints, fits) in
    let value = (decimal_is_IsNumeral (suc n) few).1 in (
      decimal (suc n),
      inr (ap decimal (sym value)),
      fits,
      inr
          (decimal (suc n) ++ rest, refl, decimal_digits (suc n) rest few ends, ap (λ m. neg_ℤ (pos m)) (sym value)),
    )

-- nine digits count nanoseconds
whole : (n value long : ℕ) → value ≡ n → long ≡ 9 → n ≡ value * 10 ^ (9 - long)
whole n value long is nine =
    (omega arith) ∙ ap (λ k. n * 10 ^ (9 - k)) (sym nine) ∙ ap (λ m. m * 10 ^ (9 - long)) (sym is)

-- nine digits after a point
printed_fraction : (n : ℕ) (rest : List ℕ) → n < 1000000000 → EndsDigits rest
    → IsFraction (46 ∷ (nine_digits n ++ rest)) n rest
unfolding nine_digits
printed_fraction n rest few ends =
    let digits = last_digits 9 n in
    let long : length digits ≡ 9 = last_digits_length 9 n in
    let scaled : n ≡ digits_value 10 digits * 10 ^ (9 - length digits) =
    whole n (digits_value 10 digits) (length digits) (last_digits_value 9 n (omega (arith, few))) long in
    inr (
      digits ++ rest,
      digits,
      refl,
      record {
        whole = refl;
        all_digits = last_digits_all 9 n;
        ends = ends;
      },
      omega (arith, long),
      omega (arith, long),
      scaled,
    )

two_digits_or_more-above : (n : ℕ) → 100 ≤ n → two_digits_or_more n ≡ decimal n
unfolding two_digits_or_more
two_digits_or_more-above n above = grind (arith, nat_tests)

-- hours with two digits or more
printed_hours : (h : ℕ) (rest : List ℕ) → 3600 * h < 2 ^ 31 → EndsDigits rest
    → IsHours (two_digits_or_more h ++ rest) h rest
unfolding two_digits_or_more two_digits
printed_hours h rest few ends = elim (cases_lt h 100) [
  | inl below ↦
      let digits = last_digits 2 h in
      let front : IsDigits (digits ++ rest) digits rest = record {
        whole = refl;
        all_digits = last_digits_all 2 h;
        ends = ends;
      } in
      subst (λ text. IsHours (text ++ rest) h rest) (sym (two_digits_or_more-below h below))
      (digits, front, omega (arith, last_digits_length 2 h), sym (last_digits_value 2 h (omega (arith, below))), few)
  | inr above ↦
      let long = ap length (decimal-pairs h above (omega (arith, few))) ∙ length-append (decimal (h / 100))
      (two_digits (h % 100)) in
      subst (λ text. IsHours (text ++ rest) h rest) (sym (two_digits_or_more-above h above)) (
        decimal h,
        decimal_digits h rest (omega (arith, few)) ends,
        omega (arith, long, length-two_digits (h % 100)),
        sym
            (decimal_is_IsNumeral h (omega (arith, few))).1,
        few,
      )
]

printed_seconds_by : (none : Bool) (hours minutes seconds : ℕ) → (seconds == 0) ≡ none → seconds < 60
    → 3600 * hours + 60 * minutes + seconds < 2 ^ 31
    → IsSeconds hours minutes (if none then [] else 58 ∷ two_digits seconds) seconds []
printed_seconds_by true hours minutes seconds e few below =
    (inl (λ colon. omega (arith, ap length colon.1), eqb-true seconds 0 e, refl), below)
printed_seconds_by false hours minutes seconds e few below = (
  inr (
    two_digits seconds,
    refl,
    (
      omega (arith, few),
      sym
          (append-nil (two_digits seconds)),
      omega arith,
      omega (arith, few),
    ),
  ),
  below,
)

printed_seconds : (hours minutes seconds : ℕ) → seconds < 60 → 3600 * hours + 60 * minutes + seconds < 2 ^ 31
    → IsSeconds hours minutes (seconds_text seconds) seconds []
printed_seconds hours minutes seconds few below = printed_seconds_by (seconds == 0) hours minutes seconds refl few below

printed_duration : (s : ℕ) → s < 2 ^ 31 → duration.reads (duration_text s) s []
unfolding duration_text
printed_duration s few =
    let h = s / 3600 in
    let m = s / 60 % 60 in
    let r = s % 60 in
    let total : s ≡ 3600 * h + 60 * m + r = omega arith in (
      h,
      58 ∷ two_digits m ++ seconds_text r,
      printed_hours h (58 ∷ two_digits m ++ seconds_text r) (omega (arith, few))
          (colon_ends (two_digits m ++ seconds_text r)),
      (
        tt,
        two_digits m ++ seconds_text r,
        refl,
        (
          m,
          seconds_text
              r,
          ((omega arith, refl, omega arith, omega arith), omega (arith, few)),
          (
            r,
            [],
            printed_seconds h m r (omega arith) (omega (arith, few)),
            (total, refl),
          ),
        ),
      ),
    )

magnitude : (n : ℕ) → FitsSigned w32 (negsuc n) → IsOffset (negsuc n) → suc n < 2 ^ 31
magnitude n fits other = elim (cases_lt n 2147483647) [
  | inl few ↦ omega (arith, few)
  | inr many ↦ let same : n ≡ 2147483647 = omega (arith, ints, fits, many) in absurd (other (ap negsuc same))
]

printed_offset : (z : ℤ) → FitsSigned w32 z → IsOffset z → offset.reads (offset_text z) (Some z) []
unfolding offset_text
printed_offset (pos zero) fits other = (Utc, [], inl refl, (refl, refl))
printed_offset (pos (suc n)) fits other = (
  Ahead,
  duration_text (suc n),
  refl,
  (
    suc n,
    [],
    printed_duration (suc n)
        (omega (arith, ints, fits)),
    (refl, refl),
  ),
)
printed_offset (negsuc n) fits other = (
  Behind,
  duration_text (suc n),
  refl,
  (suc n, [], printed_duration (suc n) (magnitude n fits other), (refl, refl)),
)

-- no offset begins with a digit
offset_ends : (z : ℤ) → EndsDigits (offset_text z)
unfolding offset_text
offset_ends (pos zero) = λ digit. absurd (omega (arith, digit))
offset_ends (pos (suc n)) = λ digit. absurd (omega (arith, digit))
offset_ends (negsuc n) = λ digit. absurd (omega (arith, digit))

pair_reads : (least greatest n : ℕ) (rest : List ℕ) → n < 100 → least ≤ n → n ≤ greatest
    → IsPair least greatest (two_digits n ++ rest) n rest
pair_reads least greatest n rest few low high = (few, refl, low, high)

-- fields of UTC are not the second past the end
pub utc_not_past : (f : Fields) → IsUtc f → ¬ IsPastTheEnd f
utc_not_past f utc past =
    let (year, month, month_day, hour, minute, second) = past in
    let day : day_of f ≡ day_number (pos 2147483647) 12 31 = cc (year, month, month_day) in
    absurd (omega (arith, ints, day, hour, minute, second, max_is_utc.1, utc.reads))

-- the parts of a printed text, from the last to the first
unfoldable pub after_second : Fields → ℤ → List ℕ
after_second f z = 46 ∷ (nine_digits f.nanoseconds ++ offset_text z)

unfoldable pub after_minute : Fields → ℤ → List ℕ
after_minute f z = 58 ∷ (two_digits f.second ++ after_second f z)

unfoldable pub after_hour : Fields → ℤ → List ℕ
after_hour f z = 58 ∷ (two_digits f.minute ++ after_minute f z)

unfoldable pub after_date : Fields → ℤ → List ℕ
after_date f z = 84 ∷ (two_digits f.hour ++ after_hour f z)

unfoldable pub after_month : Fields → ℤ → List ℕ
after_month f z = 45 ∷ (two_digits f.month_day ++ after_date f z)

unfoldable pub after_year : Fields → ℤ → List ℕ
after_year f z = 45 ∷ (two_digits f.month ++ after_month f z)

pub in_parts : (f : Fields) (z : ℤ) → printed_text f z ≡ signed_decimal f.year ++ after_year f z
unfolding printed_text date_text time_text after_year after_month after_date after_hour after_minute after_second
in_parts f z = simp append_assoc

-- the local time of a printed text is read, whatever the offset after it
pub printed_local : (f : Fields) (z : ℤ) → IsValid f → ¬ IsPastTheEnd f → FitsSigned w32 f.year
    → date.reads (printed_text f z) (fields_of f.year f.month f.month_day 0 0 0 0) (after_date f z)
    × (time (fields_of f.year f.month f.month_day 0 0 0 0)).reads (two_digits f.hour ++ after_hour f z) f
    (offset_text z)
unfolding after_year after_month after_date after_hour after_minute after_second
printed_local f z valid not_past fits =
    let r = valid.in_range in
    let d = fields_of f.year f.month f.month_day 0 0 0 0 in
    let year = subst (λ text. IsYear text f.year (after_year f z)) (sym (in_parts f z))
    (printed_year f.year (after_year f z) fits (hyphen_ends (two_digits f.month ++ after_month f z))) in
    let month = pair_reads 1 12 f.month (after_month f z) (omega (arith, r.month)) r.month.0 r.month.1 in
    let month_day = pair_reads 1 (month_length (is_leap f.year) f.month) f.month_day (after_date f z)
    (omega (arith, r.month_day)) r.month_day.0 valid.in_month in
    let date_is : date.reads (printed_text f z) d (after_date f z) = (
      f.year,
      after_year f z,
      year,
      (
        tt,
        two_digits f.month
            ++ after_month f z,
        refl,
        (
          f.month,
          after_month f z,
          month,
          (
            tt,
            two_digits f.month_day ++ after_date f
                z,
            refl,
            (f.month_day, after_date f z, month_day, (refl, refl)),
          ),
        ),
      ),
    ) in
    let hour = pair_reads 0 23 f.hour (after_hour f z) (omega (arith, r.hour)) (omega arith) r.hour in
    let minute = pair_reads 0 59 f.minute (after_minute f z) (omega (arith, r.minute)) (omega arith) r.minute in
    let second : IsSecond d f.hour f.minute (two_digits f.second ++ after_second f z) f.second (after_second f z) =
    (pair_reads 0 60 f.second (after_second f z) (omega (arith, r.second)) (omega arith) r.second, not_past) in
    let fraction = printed_fraction f.nanoseconds (offset_text z) r.nanoseconds (offset_ends z) in
    let time_is : (time d).reads (two_digits f.hour ++ after_hour f z) f (offset_text z) = (
      f.hour,
      after_hour f z,
      hour,
      (
        tt,
        two_digits f.minute
            ++ after_minute f z,
        refl,
        (
          f.minute,
          after_minute f z,
          minute,
          (
            tt,
            two_digits f.second ++ after_second f
                z,
            refl,
            (f.second, after_second f z, second, (f.nanoseconds, offset_text z, fraction, (refl, refl))),
          ),
        ),
      ),
    ) in
    (date_is, time_is)

pub printed_is_read : (f : Fields) (z : ℤ) → IsValid f → ¬ IsPastTheEnd f → FitsSigned w32 f.year → FitsSigned w32 z
    → IsOffset z
    → IsDateTimeText (printed_text f z) (record { local = f; ut_offset = Some z })
unfolding after_date
printed_is_read f z valid not_past fits fits_too other =
    let (date_is, time_is) = printed_local f z valid not_past fits in (
      fields_of f.year f.month f.month_day 0 0 0 0,
      after_date f z,
      date_is,
      (
        tt,
        two_digits f.hour
            ++ after_hour f z,
        inl refl,
        (
          f,
          offset_text z,
          time_is,
          (
            Some z,
            [],
            printed_offset z fits_too other,
            (tt, [], (refl, refl), (refl, refl)),
          ),
        ),
      ),
    )

-- and with `Z` after it as a date time of UTC
pub printed_is_utc : (f : Fields) → IsUtc f → FitsSigned w32 f.year → IsUtcText (printed_text f (pos 0)) f
unfolding after_date offset_text
printed_is_utc f utc fits =
    let (date_is, time_is) = printed_local f (pos 0) utc.valid (utc_not_past f utc) fits in (
      fields_of f.year f.month f.month_day 0 0 0 0,
      after_date f (pos 0),
      date_is,
      (
        tt,
        two_digits f.hour
            ++ after_hour f (pos 0),
        inl refl,
        (
          f,
          offset_text (pos 0),
          time_is,
          (tt, [], inl refl, (tt, [], (refl, refl), (refl, refl))),
        ),
      ),
    )
