-- What is read of the texts of conversions.
use Rattle.std.proofs.Common.{arith, refl, ◌≡◌, ◌∙◌, ap, sym, [], ℕ, zero, suc, ◌∷◌, ◌<◌, ◌≤◌, length, ◌+◌, ◌*◌, ◌++◌, ◌/◌, ◌%◌, List, drop, true, false, ℤ, pos, negsuc}
use Rattle.std.specs.Prelude.{unsigned_abs, neg_ℤ, slice_index, ◌==◌, if◌then◌else◌}
use Rattle.std.proofs.lemmas.Bool.{cases_lt, lt-ltb, le-ltb}
use Rattle.std.proofs.Common.{inl, inr}
use Rattle.std.proofs.Math.Seq.{drop-append_seam}
use Rattle.tz.specs.PrintedText.{last_digits, two_digits, two_digits_or_more, nine_digits}
use Rattle.tz.proofs.PrintedDigits.{two_digits-below}
use Rattle.tz_format.specs.Names.{month_name, week_day_name, short}
use Rattle.tz_format.specs.Shown.{Shown}
use Rattle.tz_format.specs.Texts.{spaced_digits, conversion_text, year_text, year_of_century, four_digits_or_more, half_day, half_day_hour, hours_and_minutes, offset_digits}
use Rattle.tz_format.specs.Weeks.{week_day}
use Rattle.tz_format.specs.Readings.{IsPlain, pair, triple, month_of, month_read, week_day_width, offset_read, value_read, value, parts_of, is_read, read_width}
use Rattle.tz_format.specs.declared.conversion.Conversion.{Conversion}
use Rattle.tz_format.specs.declared.conversion.Conversion.TheVariants.{Year, YearOfCentury, WeekYear, WeekYearOfCentury, Month, MonthName, ShortMonthName, MonthDay, SpacedMonthDay, YearDay, Hour, SpacedHour, HalfDayHour, HalfDay, Minute, Second, WeekDayName, ShortWeekDayName, WeekDayFromMonday, WeekDayFromSunday, Week as WeekNumber, WeekFromSunday, WeekFromMonday, UnixTime, Offset, OffsetWithColon, Designation, Date, DateWithSlashes, Time, TimeToMinutes, Milliseconds, Microseconds, Nanoseconds, PointMilliseconds, PointMicroseconds, PointNanoseconds, LineFeed, Tab, Percent}
use Rattle.tz_format.proofs.ConversionBytes.{week_day_below}
use Rattle.tz_format.proofs.Digits.{three_digits_are, four_digits_are, last_three_digits, nine_digits_are}
use Rattle.tz_format.proofs.Parts.{Each}

-- two digits
pair_value : (n : ℕ) (after : List ℕ) → n < 100 → pair (two_digits n ++ after) 0 ≡ n
pair_value n after below = rw (two_digits-below n below) (omega (arith, below))

-- years
year_bytes : (y : ℕ) → y < 10000 → year_text (pos y) ≡ (48 + y / 100 / 10) ∷ (48 + y / 100 % 10)
    ∷ (48 + y % 100 / 10) ∷ (48 + y % 100 % 10) ∷ []
unfolding year_text four_digits_or_more
year_bytes y below =
    let front : y / 100 % 100 ≡ y / 100 = omega (arith, below) in
    rw (
      lt-ltb y 10000 below,
      four_digits_are y,
      front,
      two_digits-below (y / 100) (omega (arith, below)),
      two_digits-below (y % 100) (omega arith),
    ) refl

year_value : (year : ℤ) (y : ℕ) (after : List ℕ) → y < 10000 → year ≡ pos y
    → pos (100 * pair (year_text year ++ after) 0 + pair (year_text year ++ after) 2) ≡ year
year_value year y after below is = rw (is, year_bytes y below) (ap pos (omega (arith, below)))

year_width : (year : ℤ) (y : ℕ) → y < 10000 → year ≡ pos y → length (year_text year) ≡ 4
year_width year y below is = rw (is, year_bytes y below) refl

-- months
month_value : (m : ℕ) (after : List ℕ) → 1 ≤ m → m ≤ 12 → month_read (short (month_name m) ++ after) ≡ m
unfolding month_of
month_value zero after from to = absurd (omega (arith, from))
month_value (suc zero) after from to = refl
month_value (suc (suc zero)) after from to = refl
month_value (suc (suc (suc zero))) after from to = refl
month_value (suc (suc (suc (suc zero)))) after from to = refl
month_value (suc (suc (suc (suc (suc zero))))) after from to = refl
month_value (suc (suc (suc (suc (suc (suc zero)))))) after from to = refl
month_value (suc (suc (suc (suc (suc (suc (suc zero))))))) after from to = refl
month_value (suc (suc (suc (suc (suc (suc (suc (suc zero)))))))) after from to = refl
month_value (suc (suc (suc (suc (suc (suc (suc (suc (suc zero))))))))) after from to = refl
month_value (suc (suc (suc (suc (suc (suc (suc (suc (suc (suc zero)))))))))) after from to = refl
month_value (suc (suc (suc (suc (suc (suc (suc (suc (suc (suc (suc zero))))))))))) after from to = refl
month_value (suc (suc (suc (suc (suc (suc (suc (suc (suc (suc (suc (suc zero)))))))))))) after from to = refl
month_value (suc (suc (suc (suc (suc (suc (suc (suc (suc (suc (suc (suc (suc m))))))))))))) after from to =
    absurd (omega (arith, to))

month_width : (m : ℕ) → 1 ≤ m → m ≤ 12 → length (short (month_name m)) ≡ 3
month_width zero from to = absurd (omega (arith, from))
month_width (suc zero) from to = refl
month_width (suc (suc zero)) from to = refl
month_width (suc (suc (suc zero))) from to = refl
month_width (suc (suc (suc (suc zero)))) from to = refl
month_width (suc (suc (suc (suc (suc zero))))) from to = refl
month_width (suc (suc (suc (suc (suc (suc zero)))))) from to = refl
month_width (suc (suc (suc (suc (suc (suc (suc zero))))))) from to = refl
month_width (suc (suc (suc (suc (suc (suc (suc (suc zero)))))))) from to = refl
month_width (suc (suc (suc (suc (suc (suc (suc (suc (suc zero))))))))) from to = refl
month_width (suc (suc (suc (suc (suc (suc (suc (suc (suc (suc zero)))))))))) from to = refl
month_width (suc (suc (suc (suc (suc (suc (suc (suc (suc (suc (suc zero))))))))))) from to = refl
month_width (suc (suc (suc (suc (suc (suc (suc (suc (suc (suc (suc (suc zero)))))))))))) from to = refl
month_width (suc (suc (suc (suc (suc (suc (suc (suc (suc (suc (suc (suc (suc m))))))))))))) from to =
    absurd (omega (arith, to))

week_day_width_3 : (d : ℕ) → d < 7 → length (short (week_day_name d)) ≡ 3
week_day_width_3 zero below = refl
week_day_width_3 (suc zero) below = refl
week_day_width_3 (suc (suc zero)) below = refl
week_day_width_3 (suc (suc (suc zero))) below = refl
week_day_width_3 (suc (suc (suc (suc zero)))) below = refl
week_day_width_3 (suc (suc (suc (suc (suc zero))))) below = refl
week_day_width_3 (suc (suc (suc (suc (suc (suc zero)))))) below = refl
week_day_width_3 (suc (suc (suc (suc (suc (suc (suc d))))))) below = absurd (omega (arith, below))

month_full : (m : ℕ) (after : List ℕ) → 1 ≤ m → m ≤ 12 → month_read (month_name m ++ after) ≡ m
unfolding month_of
month_full zero after from to = absurd (omega (arith, from))
month_full (suc zero) after from to = refl
month_full (suc (suc zero)) after from to = refl
month_full (suc (suc (suc zero))) after from to = refl
month_full (suc (suc (suc (suc zero)))) after from to = refl
month_full (suc (suc (suc (suc (suc zero))))) after from to = refl
month_full (suc (suc (suc (suc (suc (suc zero)))))) after from to = refl
month_full (suc (suc (suc (suc (suc (suc (suc zero))))))) after from to = refl
month_full (suc (suc (suc (suc (suc (suc (suc (suc zero)))))))) after from to = refl
month_full (suc (suc (suc (suc (suc (suc (suc (suc (suc zero))))))))) after from to = refl
month_full (suc (suc (suc (suc (suc (suc (suc (suc (suc (suc zero)))))))))) after from to = refl
month_full (suc (suc (suc (suc (suc (suc (suc (suc (suc (suc (suc zero))))))))))) after from to = refl
month_full (suc (suc (suc (suc (suc (suc (suc (suc (suc (suc (suc (suc zero)))))))))))) after from to = refl
month_full (suc (suc (suc (suc (suc (suc (suc (suc (suc (suc (suc (suc (suc m))))))))))))) after from to =
    absurd (omega (arith, to))

week_day_full : (d : ℕ) (after : List ℕ) → d < 7
    → week_day_width (slice_index (week_day_name d ++ after) 0) (slice_index (week_day_name d ++ after) 1)
    ≡ length (week_day_name d)
unfolding week_day_width
week_day_full zero after below = refl
week_day_full (suc zero) after below = refl
week_day_full (suc (suc zero)) after below = refl
week_day_full (suc (suc (suc zero))) after below = refl
week_day_full (suc (suc (suc (suc zero)))) after below = refl
week_day_full (suc (suc (suc (suc (suc zero))))) after below = refl
week_day_full (suc (suc (suc (suc (suc (suc zero)))))) after below = refl
week_day_full (suc (suc (suc (suc (suc (suc (suc d))))))) after below = absurd (omega (arith, below))

-- milliseconds
three_bytes : (n : ℕ) → n < 1000
    → last_digits 3 n ≡ (48 + n / 100) ∷ (48 + n % 100 / 10) ∷ (48 + n % 100 % 10) ∷ []
three_bytes n below =
    three_digits_are n below
    ∙ ap (λ xs. (48 + n / 100) ∷ xs) (two_digits-below (n % 100) (omega arith))

milliseconds_width : (n : ℕ) → n < 1000 → length (last_digits 3 n) ≡ 3
milliseconds_width n below = ap length (three_bytes n below)

-- offsets
hours_bytes : (n m : ℕ) → m < 6000 → n ≡ 60 * m → hours_and_minutes false n ≡ (48 + m / 60 / 10)
    ∷ (48 + m / 60 % 10) ∷ (48 + m % 60 / 10) ∷ (48 + m % 60 % 10) ∷ []
unfolding hours_and_minutes two_digits_or_more
hours_bytes n m below is =
    let hours : n / 3600 ≡ m / 60 = omega (arith, is) in
    let minutes : n / 60 % 60 ≡ m % 60 = omega (arith, is) in
    rw (
      hours,
      minutes,
      lt-ltb (m / 60) 100 (omega (arith, below)),
      two_digits-below (m / 60) (omega (arith, below)),
      two_digits-below (m % 60) (omega arith),
    ) refl

colon_bytes : (n m : ℕ) → m < 6000 → n ≡ 60 * m → hours_and_minutes true n ≡ (48 + m / 60 / 10)
    ∷ (48 + m / 60 % 10) ∷ 58 ∷ (48 + m % 60 / 10) ∷ (48 + m % 60 % 10) ∷ []
unfolding hours_and_minutes two_digits_or_more
colon_bytes n m below is =
    let hours : n / 3600 ≡ m / 60 = omega (arith, is) in
    let minutes : n / 60 % 60 ≡ m % 60 = omega (arith, is) in
    rw (
      hours,
      minutes,
      lt-ltb (m / 60) 100 (omega (arith, below)),
      two_digits-below (m / 60) (omega (arith, below)),
      two_digits-below (m % 60) (omega arith),
    ) refl

offset_value : (o : ℤ) (m : ℕ) (after : List ℕ) → m < 6000 → unsigned_abs o ≡ 60 * m
    → offset_read (offset_digits false o ++ after) 3 ≡ o
unfolding offset_read offset_digits
offset_value (pos n) m after below is = rw (hours_bytes n m below is) (ap pos (omega (arith, is, below)))
offset_value (negsuc n) m after below is =
    let size : 60 * (60 * (10 * ((48 + m / 60 / 10) % 16) + (48 + m / 60 % 10) % 16)
    + (10 * ((48 + m % 60 / 10) % 16) + (48 + m % 60 % 10) % 16)) ≡ suc n = omega (arith, is, below) in
    rw (hours_bytes (suc n) m below is) (ap (λ k. neg_ℤ (pos k)) size)

colon_value : (o : ℤ) (m : ℕ) (after : List ℕ) → m < 6000 → unsigned_abs o ≡ 60 * m
    → offset_read (offset_digits true o ++ after) 4 ≡ o
unfolding offset_read offset_digits
colon_value (pos n) m after below is = rw (colon_bytes n m below is) (ap pos (omega (arith, is, below)))
colon_value (negsuc n) m after below is =
    let size : 60 * (60 * (10 * ((48 + m / 60 / 10) % 16) + (48 + m / 60 % 10) % 16)
    + (10 * ((48 + m % 60 / 10) % 16) + (48 + m % 60 % 10) % 16)) ≡ suc n = omega (arith, is, below) in
    rw (colon_bytes (suc n) m below is) (ap (λ k. neg_ℤ (pos k)) size)

offset_width : (o : ℤ) (m : ℕ) → m < 6000 → unsigned_abs o ≡ 60 * m → length (offset_digits false o) ≡ 5
unfolding offset_digits
offset_width (pos n) m below is = rw (hours_bytes n m below is) refl
offset_width (negsuc n) m below is = rw (hours_bytes (suc n) m below is) refl

colon_width : (o : ℤ) (m : ℕ) → m < 6000 → unsigned_abs o ≡ 60 * m → length (offset_digits true o) ≡ 6
unfolding offset_digits
colon_width (pos n) m below is = rw (colon_bytes n m below is) refl
colon_width (negsuc n) m below is = rw (colon_bytes (suc n) m below is) refl

two_length : (n : ℕ) → length (two_digits n) ≡ 2
unfolding two_digits
two_length n = refl

-- two bytes, of which the first can be a space
spaced_value : (n : ℕ) (after : List ℕ) → n < 100 → pair (spaced_digits n ++ after) 0 ≡ n
unfolding spaced_digits
spaced_value n after below = elim (cases_lt n 10) [
  | inl few ↦ rw (lt-ltb n 10 few) (omega (arith, few))
  | inr many ↦ rw (le-ltb n 10 many, two_digits-below n below) (omega (arith, below))
]

spaced_width : (n : ℕ) → n < 100 → length (spaced_digits n) ≡ 2
unfolding spaced_digits
spaced_width n below = elim (cases_lt n 10) [
  | inl few ↦ rw (lt-ltb n 10 few) refl
  | inr many ↦ rw (le-ltb n 10 many, two_digits-below n below) refl
]

two_width : (n : ℕ) → n < 100 → length (two_digits n) ≡ 2
two_width n below = rw (two_digits-below n below) refl

-- hours
half_value : (h : ℕ) (after : List ℕ) → h ≤ 23
    → (if slice_index (half_day h ++ after) 0 == 80 then pos 1 else pos 0) ≡ pos (h / 12)
half_value h after to = elim (cases_lt h 12) [
  | inl am ↦ rw (lt-ltb h 12 am) (ap pos (omega (arith, am)))
  | inr pm ↦ rw (le-ltb h 12 pm) (ap pos (omega (arith, pm, to)))
]

half_width : (h : ℕ) → length (half_day h) ≡ 2
half_width h = elim (cases_lt h 12) [
  | inl am ↦ rw (lt-ltb h 12 am) refl
  | inr pm ↦ rw (le-ltb h 12 pm) refl
]

half_hour_value : (h : ℕ) (after : List ℕ) → pair (two_digits (half_day_hour h) ++ after) 0 % 12 ≡ h % 12
half_hour_value h after =
    ap (λ n. n % 12) (pair_value ((h + 11) % 12 + 1) after (omega arith)) ∙ omega arith

-- fractions
abbrev three : ℕ → List ℕ
three n = (48 + n / 100) ∷ (48 + n % 100 / 10) ∷ (48 + n % 100 % 10) ∷ []

joined : (xs xs' ys ys' : List ℕ) → xs ≡ xs' → ys ≡ ys' → xs ++ ys ≡ xs' ++ ys'
joined xs xs' ys ys' front back = λ i. front i ++ back i

six_bytes : (n : ℕ) → n < 1000000 → last_digits 6 n ≡ three (n / 1000) ++ three (n % 1000)
six_bytes n below =
    last_three_digits 3 n
    ∙ joined (last_digits 3 (n / 1000)) (three (n / 1000)) (last_digits 3 (n % 1000)) (three (n % 1000))
    (three_bytes (n / 1000) (omega (arith, below))) (three_bytes (n % 1000) (omega arith))

nine_bytes : (n : ℕ) → n < 1000000000
    → nine_digits n ≡ (three (n / 1000 / 1000) ++ three (n / 1000 % 1000)) ++ three (n % 1000)
nine_bytes n below =
    nine_digits_are n
    ∙ joined (last_digits 6 (n / 1000)) (three (n / 1000 / 1000) ++ three (n / 1000 % 1000)) (last_digits 3 (n %
    1000))
    (three (n % 1000)) (six_bytes (n / 1000) (omega (arith, below))) (three_bytes (n % 1000) (omega arith))

-- three digits, alone and after others
first_three : (a : ℕ) (after : List ℕ) → a < 1000 → triple (three a ++ after) 0 ≡ a
first_three a after below = omega (arith, below)

point_three : (a : ℕ) (after : List ℕ) → a < 1000 → triple (46 ∷ three a ++ after) 1 ≡ a
point_three a after below = omega (arith, below)

second_three : (a b : ℕ) (after : List ℕ) → b < 1000 → triple (three a ++ three b ++ after) 3 ≡ b
second_three a b after below = omega (arith, below)

point_second : (a b : ℕ) (after : List ℕ) → b < 1000 → triple (46 ∷ three a ++ three b ++ after) 4 ≡ b
point_second a b after below = omega (arith, below)

third_three : (a b c : ℕ) (after : List ℕ) → c < 1000 → triple (three a ++ three b ++ three c ++ after) 6 ≡ c
third_three a b c after below = omega (arith, below)

point_third : (a b c : ℕ) (after : List ℕ) → c < 1000 → triple (46 ∷ three a ++ three b ++ three c ++ after) 7 ≡ c
point_third a b c after below = omega (arith, below)

-- dates and times of day
date_bytes : (year : ℤ) (y m d : ℕ) → y < 10000 → year ≡ pos y → m < 100 → d < 100
    → year_text year ++ (45 ∷ two_digits m ++ (45 ∷ two_digits d))
    ≡ (48 + y / 100 / 10) ∷ (48 + y / 100 % 10) ∷ (48 + y % 100 / 10) ∷ (48 + y % 100 % 10) ∷ 45 ∷ (48 + m / 10)
    ∷ (48 + m % 10) ∷ 45 ∷ (48 + d / 10) ∷ (48 + d % 10) ∷ []
date_bytes year y m d below is m_below d_below =
    rw (is, year_bytes y below, two_digits-below m m_below, two_digits-below d d_below) refl

-- two digits, a byte, two digits and more
pairs_bytes : (byte a b : ℕ) (rest : List ℕ) → a < 100 → b < 100
    → two_digits a ++ (byte ∷ two_digits b ++ rest)
    ≡ (48 + a / 10) ∷ (48 + a % 10) ∷ byte ∷ (48 + b / 10) ∷ (48 + b % 10) ∷ rest
pairs_bytes byte a b rest a_below b_below = rw (two_digits-below a a_below, two_digits-below b b_below) refl

time_bytes : (h m s : ℕ) → h < 100 → m < 100 → s < 100
    → two_digits h ++ (58 ∷ two_digits m ++ (58 ∷ two_digits s))
    ≡ (48 + h / 10) ∷ (48 + h % 10) ∷ 58 ∷ (48 + m / 10) ∷ (48 + m % 10) ∷ 58 ∷ (48 + s / 10) ∷ (48 + s % 10) ∷ []
time_bytes h m s h_below m_below s_below =
    rw (two_digits-below h h_below, two_digits-below m m_below, two_digits-below s s_below) refl

minutes_bytes : (h m : ℕ) → h < 100 → m < 100
    → two_digits h ++ (58 ∷ two_digits m) ≡ (48 + h / 10) ∷ (48 + h % 10) ∷ 58 ∷ (48 + m / 10) ∷ (48 + m % 10) ∷ []
minutes_bytes h m h_below m_below = rw (two_digits-below h h_below, two_digits-below m m_below) refl

-- a field of at most two digits
month_below : (s : Shown) → IsPlain s → s.fields.month < 100
month_below s plain = omega (arith, plain.shown.valid.in_range.month.1)

day_below : (s : Shown) → IsPlain s → s.fields.month_day < 100
day_below s plain = omega (arith, plain.shown.valid.in_range.month_day.1)

hour_below : (s : Shown) → IsPlain s → s.fields.hour < 100
hour_below s plain = omega (arith, plain.shown.valid.in_range.hour)

minute_below : (s : Shown) → IsPlain s → s.fields.minute < 100
minute_below s plain = omega (arith, plain.shown.valid.in_range.minute)

second_below : (s : Shown) → IsPlain s → s.fields.second < 100
second_below s plain = omega (arith, plain.shown.valid.in_range.second)

thousandths : (s : Shown) → IsPlain s → s.fields.nanoseconds / 1000000 < 1000
thousandths s plain = omega (arith, plain.shown.valid.in_range.nanoseconds)

millionths : (s : Shown) → IsPlain s → s.fields.nanoseconds / 1000 < 1000000
millionths s plain = omega (arith, plain.shown.valid.in_range.nanoseconds)

-- the parts of a whole date and of a time of day
date_year : (s : Shown) (after : List ℕ) → IsPlain s →
    let text = conversion_text s Date ++ after in pos (100 * pair text 0 + pair text 2) ≡ s.fields.year
unfolding conversion_text
date_year s after plain =
    let (y, below, is) = plain.year in
    ap (λ xs. pos (100 * pair (xs ++ after) 0 + pair (xs ++ after) 2))
    (date_bytes s.fields.year y s.fields.month s.fields.month_day below is (month_below s plain) (day_below s
    plain))
    ∙ ap pos (omega (arith, below)) ∙ sym is

date_month : (s : Shown) (after : List ℕ) → IsPlain s → pair (conversion_text s Date ++ after) 5 ≡ s.fields.month
unfolding conversion_text
date_month s after plain =
    let (y, below, is) = plain.year in
    ap (λ xs. pair (xs ++ after) 5)
    (date_bytes s.fields.year y s.fields.month s.fields.month_day below is (month_below s plain) (day_below s
    plain))
    ∙ omega arith

date_day : (s : Shown) (after : List ℕ) → IsPlain s → pair (conversion_text s Date ++ after) 8 ≡ s.fields.month_day
unfolding conversion_text
date_day s after plain =
    let (y, below, is) = plain.year in
    ap (λ xs. pair (xs ++ after) 8)
    (date_bytes s.fields.year y s.fields.month s.fields.month_day below is (month_below s plain) (day_below s
    plain))
    ∙ omega arith

slashes_month : (s : Shown) (after : List ℕ) → IsPlain s
    → pair (conversion_text s DateWithSlashes ++ after) 0 ≡ s.fields.month
unfolding conversion_text
slashes_month s after plain =
    ap (λ xs. pair (xs ++ after) 0) (pairs_bytes 47 s.fields.month s.fields.month_day
    (47 ∷ two_digits (year_of_century s.fields.year)) (month_below s plain) (day_below s plain)) ∙ omega arith

slashes_day : (s : Shown) (after : List ℕ) → IsPlain s
    → pair (conversion_text s DateWithSlashes ++ after) 3 ≡ s.fields.month_day
unfolding conversion_text
slashes_day s after plain =
    ap (λ xs. pair (xs ++ after) 3) (pairs_bytes 47 s.fields.month s.fields.month_day
    (47 ∷ two_digits (year_of_century s.fields.year)) (month_below s plain) (day_below s plain)) ∙ omega arith

time_at : (s : Shown) → IsPlain s → two_digits s.fields.hour
    ++ (58 ∷ two_digits s.fields.minute ++ (58 ∷ two_digits s.fields.second))
    ≡ (48 + s.fields.hour / 10) ∷ (48 + s.fields.hour % 10) ∷ 58 ∷ (48 + s.fields.minute / 10)
    ∷ (48 + s.fields.minute % 10) ∷ 58 ∷ (48 + s.fields.second / 10) ∷ (48 + s.fields.second % 10) ∷ []
time_at s plain =
    time_bytes s.fields.hour s.fields.minute s.fields.second (hour_below s plain) (minute_below s plain)
    (second_below s plain)

time_hour : (s : Shown) (after : List ℕ) → IsPlain s → pair (conversion_text s Time ++ after) 0 ≡ s.fields.hour
unfolding conversion_text
time_hour s after plain = ap (λ xs. pair (xs ++ after) 0) (time_at s plain) ∙ omega arith

time_minute : (s : Shown) (after : List ℕ) → IsPlain s → pair (conversion_text s Time ++ after) 3 ≡ s.fields.minute
unfolding conversion_text
time_minute s after plain = ap (λ xs. pair (xs ++ after) 3) (time_at s plain) ∙ omega arith

time_second : (s : Shown) (after : List ℕ) → IsPlain s → pair (conversion_text s Time ++ after) 6 ≡ s.fields.second
unfolding conversion_text
time_second s after plain = ap (λ xs. pair (xs ++ after) 6) (time_at s plain) ∙ omega arith

minutes_at : (s : Shown) → IsPlain s → two_digits s.fields.hour ++ (58 ∷ two_digits s.fields.minute)
    ≡ (48 + s.fields.hour / 10) ∷ (48 + s.fields.hour % 10) ∷ 58 ∷ (48 + s.fields.minute / 10)
    ∷ (48 + s.fields.minute % 10) ∷ []
minutes_at s plain = minutes_bytes s.fields.hour s.fields.minute (hour_below s plain) (minute_below s plain)

minutes_hour : (s : Shown) (after : List ℕ) → IsPlain s
    → pair (conversion_text s TimeToMinutes ++ after) 0 ≡ s.fields.hour
unfolding conversion_text
minutes_hour s after plain = ap (λ xs. pair (xs ++ after) 0) (minutes_at s plain) ∙ omega arith

minutes_minute : (s : Shown) (after : List ℕ) → IsPlain s
    → pair (conversion_text s TimeToMinutes ++ after) 3 ≡ s.fields.minute
unfolding conversion_text
minutes_minute s after plain = ap (λ xs. pair (xs ++ after) 3) (minutes_at s plain) ∙ omega arith

-- the thousands of a fraction
milliseconds_first : (s : Shown) (after : List ℕ) → IsPlain s
    → pos (triple (last_digits 3 (s.fields.nanoseconds / 1000000) ++ after) 0) ≡ pos (s.fields.nanoseconds /
    1000000)
milliseconds_first s after plain =
    ap (λ xs. pos (triple (xs ++ after) 0)) (three_bytes (s.fields.nanoseconds / 1000000) (thousandths s plain))
    ∙ ap pos (first_three (s.fields.nanoseconds / 1000000) after (thousandths s plain))

milliseconds_point : (s : Shown) (after : List ℕ) → IsPlain s
    → pos (triple (46 ∷ last_digits 3 (s.fields.nanoseconds / 1000000) ++ after) 1)
    ≡ pos (s.fields.nanoseconds / 1000000)
milliseconds_point s after plain =
    ap (λ xs. pos (triple (46 ∷ xs ++ after) 1)) (three_bytes (s.fields.nanoseconds / 1000000) (thousandths s
    plain))
    ∙ ap pos (point_three (s.fields.nanoseconds / 1000000) after (thousandths s plain))

micro_first : (s : Shown) (after : List ℕ) → IsPlain s
    → pos (triple (last_digits 6 (s.fields.nanoseconds / 1000) ++ after) 0) ≡ pos (s.fields.nanoseconds / 1000000)
micro_first s after plain =
    let n = s.fields.nanoseconds in
    ap (λ xs. pos (triple (xs ++ after) 0)) (six_bytes (n / 1000) (millionths s plain))
    ∙ ap pos (first_three (n / 1000 / 1000) (three (n / 1000 % 1000) ++ after) (omega (arith, millionths s plain))
    ∙ omega arith)

micro_second : (s : Shown) (after : List ℕ) → IsPlain s
    → pos (triple (last_digits 6 (s.fields.nanoseconds / 1000) ++ after) 3) ≡ pos (s.fields.nanoseconds / 1000 %
    1000)
micro_second s after plain =
    let n = s.fields.nanoseconds in
    ap (λ xs. pos (triple (xs ++ after) 3)) (six_bytes (n / 1000) (millionths s plain))
    ∙ ap pos (second_three (n / 1000 / 1000) (n / 1000 % 1000) after (omega arith))

micro_point : (s : Shown) (after : List ℕ) → IsPlain s
    → pos (triple (46 ∷ last_digits 6 (s.fields.nanoseconds / 1000) ++ after) 1) ≡ pos (s.fields.nanoseconds /
    1000000)
micro_point s after plain =
    let n = s.fields.nanoseconds in
    ap (λ xs. pos (triple (46 ∷ xs ++ after) 1)) (six_bytes (n / 1000) (millionths s plain))
    ∙ ap pos (point_three (n / 1000 / 1000) (three (n / 1000 % 1000) ++ after) (omega (arith, millionths s plain))
    ∙ omega arith)

micro_point_second : (s : Shown) (after : List ℕ) → IsPlain s
    → pos (triple (46 ∷ last_digits 6 (s.fields.nanoseconds / 1000) ++ after) 4) ≡ pos (s.fields.nanoseconds / 1000
    % 1000)
micro_point_second s after plain =
    let n = s.fields.nanoseconds in
    ap (λ xs. pos (triple (46 ∷ xs ++ after) 4)) (six_bytes (n / 1000) (millionths s plain))
    ∙ ap pos (point_second (n / 1000 / 1000) (n / 1000 % 1000) after (omega arith))

nano_first : (s : Shown) (after : List ℕ) → IsPlain s → pos (triple (nine_digits s.fields.nanoseconds ++ after) 0)
    ≡ pos (s.fields.nanoseconds / 1000000)
nano_first s after plain =
    let n = s.fields.nanoseconds in
    ap (λ xs. pos (triple (xs ++ after) 0)) (nine_bytes n plain.shown.valid.in_range.nanoseconds)
    ∙ ap pos (first_three (n / 1000 / 1000) (three (n / 1000 % 1000) ++ three (n % 1000) ++ after) (omega (
      arith,
      millionths s plain,
    )) ∙ omega arith)

nano_second : (s : Shown) (after : List ℕ) → IsPlain s → pos (triple (nine_digits s.fields.nanoseconds ++ after) 3)
    ≡ pos (s.fields.nanoseconds / 1000 % 1000)
nano_second s after plain =
    let n = s.fields.nanoseconds in
    ap (λ xs. pos (triple (xs ++ after) 3)) (nine_bytes n plain.shown.valid.in_range.nanoseconds)
    ∙ ap pos (second_three (n / 1000 / 1000) (n / 1000 % 1000) (three (n % 1000) ++ after) (omega arith))

nano_third : (s : Shown) (after : List ℕ) → IsPlain s → pos (triple (nine_digits s.fields.nanoseconds ++ after) 6)
    ≡ pos (s.fields.nanoseconds % 1000)
nano_third s after plain =
    let n = s.fields.nanoseconds in
    ap (λ xs. pos (triple (xs ++ after) 6)) (nine_bytes n plain.shown.valid.in_range.nanoseconds)
    ∙ ap pos (third_three (n / 1000 / 1000) (n / 1000 % 1000) (n % 1000) after (omega arith))

nano_point : (s : Shown) (after : List ℕ) → IsPlain s → pos (triple (46 ∷ nine_digits s.fields.nanoseconds ++
    after) 1) ≡ pos (s.fields.nanoseconds / 1000000)
nano_point s after plain =
    let n = s.fields.nanoseconds in
    ap (λ xs. pos (triple (46 ∷ xs ++ after) 1)) (nine_bytes n plain.shown.valid.in_range.nanoseconds)
    ∙ ap pos (point_three (n / 1000 / 1000) (three (n / 1000 % 1000) ++ three (n % 1000) ++ after) (omega (
      arith,
      millionths s plain,
    )) ∙ omega arith)

nano_point_second : (s : Shown) (after : List ℕ) → IsPlain s → pos (triple (46 ∷ nine_digits s.fields.nanoseconds
    ++ after) 4) ≡ pos (s.fields.nanoseconds / 1000 % 1000)
nano_point_second s after plain =
    let n = s.fields.nanoseconds in
    ap (λ xs. pos (triple (46 ∷ xs ++ after) 4)) (nine_bytes n plain.shown.valid.in_range.nanoseconds)
    ∙ ap pos (point_second (n / 1000 / 1000) (n / 1000 % 1000) (three (n % 1000) ++ after) (omega arith))

nano_point_third : (s : Shown) (after : List ℕ) → IsPlain s → pos (triple (46 ∷ nine_digits s.fields.nanoseconds ++
    after) 7) ≡ pos (s.fields.nanoseconds % 1000)
nano_point_third s after plain =
    let n = s.fields.nanoseconds in
    ap (λ xs. pos (triple (46 ∷ xs ++ after) 7)) (nine_bytes n plain.shown.valid.in_range.nanoseconds)
    ∙ ap pos (point_third (n / 1000 / 1000) (n / 1000 % 1000) (n % 1000) after (omega arith))

-- the values that are read of a conversion's text
pub each_value : (s : Shown) (c : Conversion) (after : List ℕ) → IsPlain s
    → Each (λ k. value_read c k (conversion_text s c ++ after) ≡ value s k) (parts_of c)
unfolding value_read conversion_text parts_of value
each_value s Year after plain = (year_value s.fields.year plain.year.0 after plain.year.1 plain.year.2, tt)
each_value s YearOfCentury after plain = (refl, tt)
each_value s WeekYear after plain = tt
each_value s WeekYearOfCentury after plain = (refl, tt)
each_value s Month after plain = (ap pos (pair_value s.fields.month after (month_below s plain)), tt)
each_value s MonthName after plain = (
  ap pos (month_full s.fields.month after plain.shown.valid.in_range.month.0 plain.shown.valid.in_range.month.1),
  tt,
)
each_value s ShortMonthName after plain = (
  ap pos (month_value s.fields.month after plain.shown.valid.in_range.month.0 plain.shown.valid.in_range.month.1),
  tt,
)
each_value s MonthDay after plain = (ap pos (pair_value s.fields.month_day after (day_below s plain)), tt)
each_value s SpacedMonthDay after plain = (ap pos (spaced_value s.fields.month_day after (day_below s plain)), tt)
each_value s YearDay after plain = (refl, tt)
each_value s Hour after plain = (
  ap (λ n. pos (n / 12)) (pair_value s.fields.hour after (hour_below s plain)),
  (
    ap (λ n. pos (n % 12)) (pair_value s.fields.hour after (hour_below s plain)),
    tt,
  ),
)
each_value s SpacedHour after plain = (
  ap (λ n. pos (n / 12)) (spaced_value s.fields.hour after (hour_below s plain)),
  (
    ap (λ n. pos (n % 12)) (spaced_value s.fields.hour after (hour_below s plain)),
    tt,
  ),
)
each_value s HalfDayHour after plain = (ap pos (half_hour_value s.fields.hour after), tt)
each_value s HalfDay after plain = (half_value s.fields.hour after plain.shown.valid.in_range.hour, tt)
each_value s Minute after plain = (ap pos (pair_value s.fields.minute after (minute_below s plain)), tt)
each_value s Second after plain = (ap pos (pair_value s.fields.second after (second_below s plain)), tt)
each_value s WeekDayName after plain = tt
each_value s ShortWeekDayName after plain = tt
each_value s WeekDayFromMonday after plain = tt
each_value s WeekDayFromSunday after plain = tt
each_value s WeekNumber after plain = tt
each_value s WeekFromSunday after plain = tt
each_value s WeekFromMonday after plain = tt
each_value s UnixTime after plain = tt
each_value s Offset after plain = (offset_value s.ut_offset plain.offset.0 after plain.offset.1 plain.offset.2, tt)
each_value s OffsetWithColon after plain =
    (colon_value s.ut_offset plain.offset.0 after plain.offset.1 plain.offset.2, tt)
each_value s Designation after plain = tt
each_value s Date after plain = (
  date_year s after plain,
  (
    ap pos (date_month s after plain),
    (
      ap pos (date_day s after plain),
      tt,
    ),
  ),
)
each_value s DateWithSlashes after plain = (
  ap pos (slashes_month s after plain),
  (
    ap pos (slashes_day s after plain),
    (
      refl,
      tt,
    ),
  ),
)
each_value s Time after plain = (
  ap (λ n. pos (n / 12)) (time_hour s after plain),
  (
    ap (λ n. pos (n % 12)) (time_hour s after plain),
    (
      ap pos (time_minute s after plain),
      (
        ap pos (time_second s after plain),
        tt,
      ),
    ),
  ),
)
each_value s TimeToMinutes after plain = (
  ap (λ n. pos (n / 12)) (minutes_hour s after plain),
  (
    ap (λ n. pos (n % 12)) (minutes_hour s after plain),
    (
      ap pos (minutes_minute s after plain),
      tt,
    ),
  ),
)
each_value s Milliseconds after plain = (milliseconds_first s after plain, tt)
each_value s Microseconds after plain = (
  micro_first s after plain,
  (
    micro_second s after plain,
    tt,
  ),
)
each_value s Nanoseconds after plain = (
  nano_first s after plain,
  (
    nano_second s after plain,
    (
      nano_third s after plain,
      tt,
    ),
  ),
)
each_value s PointMilliseconds after plain = (milliseconds_point s after plain, tt)
each_value s PointMicroseconds after plain = (
  micro_point s after plain,
  (
    micro_point_second s after plain,
    tt,
  ),
)
each_value s PointNanoseconds after plain = (
  nano_point s after plain,
  (
    nano_point_second s after plain,
    (
      nano_point_third s after plain,
      tt,
    ),
  ),
)
each_value s LineFeed after plain = tt
each_value s Tab after plain = tt
each_value s Percent after plain = tt

-- how many bytes a conversion that is read prints
width_is : (s : Shown) (c : Conversion) (after : List ℕ) → IsPlain s → is_read c ≡ true
    → read_width c (conversion_text s c ++ after) ≡ length (conversion_text s c)
unfolding conversion_text read_width is_read
width_is s Year after plain read = sym (year_width s.fields.year plain.year.0 plain.year.1 plain.year.2)
width_is s YearOfCentury after plain read = sym (two_length _)
width_is s WeekYear after plain read = absurd (cc read)
width_is s WeekYearOfCentury after plain read = sym (two_length _)
width_is s Month after plain read = sym (two_length _)
width_is s MonthName after plain read =
    ap (λ m. length (month_name m)) (month_full s.fields.month after plain.shown.valid.in_range.month.0
    plain.shown.valid.in_range.month.1)
width_is s ShortMonthName after plain read =
    sym (month_width s.fields.month plain.shown.valid.in_range.month.0 plain.shown.valid.in_range.month.1)
width_is s MonthDay after plain read = sym (two_length _)
width_is s SpacedMonthDay after plain read = sym (spaced_width s.fields.month_day (day_below s plain))
width_is s YearDay after plain read = refl
width_is s Hour after plain read = sym (two_length _)
width_is s SpacedHour after plain read = sym (spaced_width s.fields.hour (hour_below s plain))
width_is s HalfDayHour after plain read = sym (two_length _)
width_is s HalfDay after plain read = sym (half_width s.fields.hour)
width_is s Minute after plain read = sym (two_length _)
width_is s Second after plain read = sym (two_length _)
width_is s WeekDayName after plain read = week_day_full (week_day s.fields) after (week_day_below s.fields)
width_is s ShortWeekDayName after plain read = sym (week_day_width_3 (week_day s.fields) (week_day_below s.fields))
width_is s WeekDayFromMonday after plain read = refl
width_is s WeekDayFromSunday after plain read = refl
width_is s WeekNumber after plain read = sym (two_length _)
width_is s WeekFromSunday after plain read = sym (two_length _)
width_is s WeekFromMonday after plain read = sym (two_length _)
width_is s UnixTime after plain read = absurd (cc read)
width_is s Offset after plain read = sym (offset_width s.ut_offset plain.offset.0 plain.offset.1 plain.offset.2)
width_is s OffsetWithColon after plain read =
    sym (colon_width s.ut_offset plain.offset.0 plain.offset.1 plain.offset.2)
width_is s Designation after plain read = absurd (cc read)
width_is s Date after plain read =
    sym (ap length (date_bytes s.fields.year plain.year.0 s.fields.month s.fields.month_day plain.year.1
    plain.year.2 (month_below s plain) (day_below s plain)))
width_is s DateWithSlashes after plain read =
    sym (ap length (pairs_bytes 47 s.fields.month s.fields.month_day (47 ∷ two_digits (year_of_century
    s.fields.year)) (month_below s plain) (day_below s plain)) ∙ ap (λ n. suc (suc (suc (suc (suc (suc n))))))
    (two_length (year_of_century s.fields.year)))
width_is s Time after plain read = sym (ap length (time_at s plain))
width_is s TimeToMinutes after plain read = sym (ap length (minutes_at s plain))
width_is s Milliseconds after plain read =
    sym (milliseconds_width (s.fields.nanoseconds / 1000000) (thousandths s plain))
width_is s Microseconds after plain read =
    sym (ap length (six_bytes (s.fields.nanoseconds / 1000) (millionths s plain)))
width_is s Nanoseconds after plain read =
    sym (ap length (nine_bytes s.fields.nanoseconds plain.shown.valid.in_range.nanoseconds))
width_is s PointMilliseconds after plain read =
    sym (ap suc (milliseconds_width (s.fields.nanoseconds / 1000000) (thousandths s plain)))
width_is s PointMicroseconds after plain read =
    sym (ap (λ xs. suc (length xs)) (six_bytes (s.fields.nanoseconds / 1000) (millionths s plain)))
width_is s PointNanoseconds after plain read =
    sym (ap (λ xs. suc (length xs)) (nine_bytes s.fields.nanoseconds plain.shown.valid.in_range.nanoseconds))
width_is s LineFeed after plain read = refl
width_is s Tab after plain read = refl
width_is s Percent after plain read = refl

-- what follows a conversion's text
pub after_is : (s : Shown) (c : Conversion) (after : List ℕ) → IsPlain s → is_read c ≡ true
    → drop (read_width c (conversion_text s c ++ after)) (conversion_text s c ++ after) ≡ after
after_is s c after plain read =
    ap (λ n. drop n (conversion_text s c ++ after)) (width_is s c after plain read)
    ∙ drop-append_seam (conversion_text s c) after
