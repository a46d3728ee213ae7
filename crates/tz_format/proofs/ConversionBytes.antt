-- What conversions print is ASCII.
use Rattle.std.proofs.Common.{arith, refl, ◌≡◌, [], ℕ, zero, suc, ◌∷◌, ◌<◌, ◌≤◌, ◌+◌, ◌-◌, ◌++◌, ◌/◌, ◌%◌, ◌^◌, inl, inr, ◌-ℤ◌, ◌+ℤ◌, List, get_or, true, false, Bool, ℤ, pos, negsuc, lit<}
use Rattle.std.specs.Prelude.{IsAscii, nat_lt, codes, unsigned_abs, if◌then◌else◌}
use Rattle.std.specs.List.{list_all}
use Rattle.std.specs.Fmt.{decimal, signed_decimal}
use Rattle.std.specs.Int.{int_rem_euclid}
use Rattle.std.proofs.lemmas.Bool.{cases_lt, lt-ltb, le-ltb, ltb-true, and_parts}
use Rattle.std.proofs.lemmas.Fmt.{IsAscii-decimal, IsAscii-from_digits}
use Rattle.std.proofs.lemmas.Int.{ints}
use Rattle.std.proofs.lemmas.Str.{IsAscii-append, IsAscii-take}
use Rattle.std.proofs.lemmas.Str.Ascii.{IsAscii-cons, IsAscii-nil}
use Rattle.tz.proofs.LastDigits.{last_digits_all}
use Rattle.tz.specs.PrintedText.{last_digits, two_digits, nine_digits, two_digits_or_more}
use Rattle.tz_base.specs.declared.fields.Fields.{Fields}
use Rattle.tz_base.specs.Days.{year_length, week_day_of}
use Rattle.tz_base.specs.Fields.{day_of}
use Rattle.tz_format.specs.Names.{month_names, week_day_names, month_name, week_day_name}
use Rattle.tz_format.specs.Shown.{Shown, IsShown}
use Rattle.tz_format.specs.Texts.{conversion_text, year_text, four_digits_or_more, spaced_digits, hours_and_minutes, offset_digits, half_day, zone_text, year_of_century}
use Rattle.tz_format.specs.Weeks.{Week, week_of, week_of_thursday, week_day, days_since_monday, year_day}
use Rattle.tz_format.specs.declared.conversion.Conversion.{Conversion}
use Rattle.tz_format.specs.declared.conversion.Conversion.TheVariants.{Year, YearOfCentury, WeekYear, WeekYearOfCentury, Month, MonthName, ShortMonthName, MonthDay, SpacedMonthDay, YearDay, Hour, SpacedHour, HalfDayHour, HalfDay, Minute, Second, WeekDayName, ShortWeekDayName, WeekDayFromMonday, WeekDayFromSunday, Week as WeekNumber, WeekFromSunday, WeekFromMonday, UnixTime, Offset, OffsetWithColon, Designation, Date, DateWithSlashes, Time, TimeToMinutes, Milliseconds, Microseconds, Nanoseconds, PointMilliseconds, PointMicroseconds, PointNanoseconds, LineFeed, Tab, Percent}

-- digits
pub last_digits_ascii : (width n : ℕ) → IsAscii (last_digits width n)
last_digits_ascii width n = IsAscii-from_digits (last_digits width n) (last_digits_all width n)

pub two_digits_ascii : (n : ℕ) → IsAscii (two_digits n)
unfolding two_digits
two_digits_ascii n = last_digits_ascii 2 n

nine_digits_ascii : (n : ℕ) → IsAscii (nine_digits n)
unfolding nine_digits
nine_digits_ascii n = last_digits_ascii 9 n

-- one of two texts
either_ascii : (b : Bool) (xs ys : List ℕ) → IsAscii xs → IsAscii ys → IsAscii (if b then xs else ys)
either_ascii true xs ys x y = x
either_ascii false xs ys x y = y

-- a byte before a text
after_byte : (byte : ℕ) (xs : List ℕ) → byte < 128 → IsAscii xs → IsAscii (byte ∷ xs)
after_byte byte xs below ascii = IsAscii-cons byte xs below ascii

decimal_ascii : (n : ℕ) → n < 2 ^ 64 → IsAscii (decimal n)
decimal_ascii n below = IsAscii-decimal n below

two_digits_or_more_ascii : (n : ℕ) → n < 2 ^ 64 → IsAscii (two_digits_or_more n)
unfolding two_digits_or_more
two_digits_or_more_ascii n below = either_ascii (nat_lt n 100) _ _ (two_digits_ascii n) (decimal_ascii n below)

four_digits_or_more_ascii : (n : ℕ) → n < 2 ^ 64 → IsAscii (four_digits_or_more n)
unfolding four_digits_or_more
four_digits_or_more_ascii n below = either_ascii (nat_lt n 10000) _ _ (last_digits_ascii 4 n) (decimal_ascii n below)

year_ascii : (year : ℤ) → unsigned_abs year < 2 ^ 64 → IsAscii (year_text year)
unfolding year_text
year_ascii (pos n) below = four_digits_or_more_ascii n below
year_ascii (negsuc n) below = after_byte 45 _ (lit< tt) (four_digits_or_more_ascii (suc n) below)

spaced_ascii : (n : ℕ) → IsAscii (spaced_digits n)
unfolding spaced_digits
spaced_ascii n = elim (cases_lt n 10) [
  | inl below ↦ rw (lt-ltb n 10 below) (after_byte 32 ((48 + n) ∷ []) (lit< tt)
      (after_byte (48 + n) [] (omega (arith, below)) IsAscii-nil))
  | inr from ↦ rw (le-ltb n 10 from) (two_digits_ascii n)
]

minutes_ascii : (colon : Bool) (seconds : ℕ) → seconds < 2 ^ 64 → IsAscii (hours_and_minutes colon seconds)
unfolding hours_and_minutes
minutes_ascii colon seconds below =
    IsAscii-append _ _ (two_digits_or_more_ascii (seconds / 3600) (omega (arith, below)))
    (either_ascii colon _ _ (after_byte 58 _ (lit< tt) (two_digits_ascii ((seconds / 60) % 60)))
    (two_digits_ascii ((seconds / 60) % 60)))

offset_ascii : (colon : Bool) (offset : ℤ) → unsigned_abs offset < 2 ^ 64 → IsAscii (offset_digits colon offset)
unfolding offset_digits
offset_ascii colon (pos n) below = after_byte 43 _ (lit< tt) (minutes_ascii colon n below)
offset_ascii colon (negsuc n) below = after_byte 45 _ (lit< tt) (minutes_ascii colon (suc n) below)

zone_ascii : (offset : ℤ) (name : List ℕ) → unsigned_abs offset < 2 ^ 64 → IsAscii name
    → IsAscii (zone_text offset name)
zone_ascii offset [] below ascii = offset_ascii true offset below
zone_ascii offset (byte ∷ name) below ascii = ascii

unix_time_ascii : (unix_time : ℤ) → unsigned_abs unix_time < 2 ^ 64 → IsAscii (signed_decimal unix_time)
unix_time_ascii (pos n) below = decimal_ascii n below
unix_time_ascii (negsuc n) below = after_byte 45 _ (lit< tt) (decimal_ascii (suc n) below)

-- names
all_ascii : List ℕ → Bool
all_ascii bytes = list_all (λ byte. nat_lt byte 128) bytes

text_ascii : (bytes : List ℕ) → all_ascii bytes ≡ true → IsAscii bytes
unfolding all_ascii
text_ascii [] all = IsAscii-nil
text_ascii (byte ∷ bytes) all =
    let parts = and_parts (nat_lt byte 128) (all_ascii bytes) all in
    after_byte byte bytes (ltb-true byte 128 parts.0) (text_ascii bytes parts.1)

name_ascii : (names : List (List ℕ)) → list_all all_ascii names ≡ true → (i : ℕ) → IsAscii (get_or names i [])
name_ascii [] all i = IsAscii-nil
name_ascii (name ∷ names) all zero = text_ascii name (and_parts (all_ascii name) (list_all all_ascii names) all).0
name_ascii (name ∷ names) all (suc i) = name_ascii names (and_parts (all_ascii name) (list_all all_ascii names) all).1 i

month_ascii : (month : ℕ) → IsAscii (month_name month)
unfolding all_ascii
month_ascii month = name_ascii month_names refl (month - 1)

week_day_ascii : (day : ℕ) → IsAscii (week_day_name day)
unfolding all_ascii
week_day_ascii day = name_ascii week_day_names refl day

half_day_ascii : (hour : ℕ) → IsAscii (half_day hour)
unfolding all_ascii
half_day_ascii hour = either_ascii (nat_lt hour 12) _ _ (text_ascii (codes "AM") refl) (text_ascii (codes "PM") refl)

-- a day of the week is one of seven
pub week_day_below : (f : Fields) → week_day f < 7
unfolding week_day_of
week_day_below f = rem_below_seven (day_of f +ℤ pos 4)
  where
    rem_below_seven : (z : ℤ) → unsigned_abs (int_rem_euclid z (pos 7)) < 7
    rem_below_seven (pos n) = omega arith
    rem_below_seven (negsuc n) = omega arith

-- the year of a week is near
week_year_near : (year days : ℤ) → unsigned_abs year ≤ 2 ^ 31 → unsigned_abs (week_of_thursday year days).year < 2 ^ 64
week_year_near year (negsuc days) near = omega (arith, ints, near)
week_year_near year (pos days) near = either_near (nat_lt days (year_length year)) _ _ (omega (arith, near))
    (omega (arith, ints, near))
  where
    either_near : (b : Bool) (v w : Week) → unsigned_abs v.year < 2 ^ 64 → unsigned_abs w.year < 2 ^ 64
        → unsigned_abs (if b then v else w).year < 2 ^ 64
    either_near true v w v_near w_near = v_near
    either_near false v w v_near w_near = w_near

week_ascii : (f : Fields) → unsigned_abs f.year ≤ 2 ^ 31 → IsAscii (year_text (week_of f).year)
unfolding week_of
week_ascii f near = year_ascii _ (week_year_near f.year (pos (year_day f + 3) -ℤ pos (days_since_monday f)) near)

-- two digits, a byte and two digits
pair_ascii : (byte first second : ℕ) → byte < 128 → IsAscii (two_digits first ++ (byte ∷ two_digits second))
pair_ascii byte first second below =
    IsAscii-append _ _ (two_digits_ascii first) (after_byte byte _ below (two_digits_ascii second))

pub conversion_ascii : (s : Shown) (c : Conversion) → IsShown s → IsAscii (conversion_text s c)
unfolding conversion_text
conversion_ascii s Year h = year_ascii s.fields.year (omega (arith, h.year_is))
conversion_ascii s YearOfCentury h = two_digits_ascii _
conversion_ascii s WeekYear h = week_ascii s.fields h.year_is
conversion_ascii s WeekYearOfCentury h = two_digits_ascii _
conversion_ascii s Month h = two_digits_ascii _
conversion_ascii s MonthName h = month_ascii s.fields.month
conversion_ascii s ShortMonthName h = IsAscii-take _ 3 (month_ascii s.fields.month)
conversion_ascii s MonthDay h = two_digits_ascii _
conversion_ascii s SpacedMonthDay h = spaced_ascii s.fields.month_day
conversion_ascii s YearDay h = last_digits_ascii 3 _
conversion_ascii s Hour h = two_digits_ascii _
conversion_ascii s SpacedHour h = spaced_ascii s.fields.hour
conversion_ascii s HalfDayHour h = two_digits_ascii _
conversion_ascii s HalfDay h = half_day_ascii s.fields.hour
conversion_ascii s Minute h = two_digits_ascii _
conversion_ascii s Second h = two_digits_ascii _
conversion_ascii s WeekDayName h = week_day_ascii (week_day s.fields)
conversion_ascii s ShortWeekDayName h = IsAscii-take _ 3 (week_day_ascii (week_day s.fields))
conversion_ascii s WeekDayFromMonday h =
    let below : days_since_monday s.fields < 7 = omega arith in
    after_byte (49 + days_since_monday s.fields) [] (omega (arith, below)) IsAscii-nil
conversion_ascii s WeekDayFromSunday h =
    after_byte (48 + week_day s.fields) [] (omega (arith, week_day_below s.fields)) IsAscii-nil
conversion_ascii s WeekNumber h = two_digits_ascii _
conversion_ascii s WeekFromSunday h = two_digits_ascii _
conversion_ascii s WeekFromMonday h = two_digits_ascii _
conversion_ascii s UnixTime h = unix_time_ascii s.unix_time (omega (arith, h.unix_time_is))
conversion_ascii s Offset h = offset_ascii false s.ut_offset (omega (arith, h.offset_is))
conversion_ascii s OffsetWithColon h = offset_ascii true s.ut_offset (omega (arith, h.offset_is))
conversion_ascii s Designation h = zone_ascii s.ut_offset s.designation (omega (arith, h.offset_is)) h.ascii
conversion_ascii s Date h = IsAscii-append _ _ (year_ascii s.fields.year (omega (arith, h.year_is)))
    (after_byte 45 _ (lit< tt) (pair_ascii 45 s.fields.month s.fields.month_day (lit< tt)))
conversion_ascii s DateWithSlashes h = IsAscii-append _ _ (two_digits_ascii s.fields.month)
    (after_byte 47 _ (lit< tt) (pair_ascii 47 s.fields.month_day (year_of_century s.fields.year) (lit< tt)))
conversion_ascii s Time h = IsAscii-append _ _ (two_digits_ascii s.fields.hour)
    (after_byte 58 _ (lit< tt) (pair_ascii 58 s.fields.minute s.fields.second (lit< tt)))
conversion_ascii s TimeToMinutes h = pair_ascii 58 s.fields.hour s.fields.minute (lit< tt)
conversion_ascii s Milliseconds h = last_digits_ascii 3 _
conversion_ascii s Microseconds h = last_digits_ascii 6 _
conversion_ascii s Nanoseconds h = nine_digits_ascii s.fields.nanoseconds
conversion_ascii s PointMilliseconds h =
    after_byte 46 (last_digits 3 (s.fields.nanoseconds / 1000000)) (lit< tt)
    (last_digits_ascii 3 (s.fields.nanoseconds / 1000000))
conversion_ascii s PointMicroseconds h =
    after_byte 46 (last_digits 6 (s.fields.nanoseconds / 1000)) (lit< tt)
    (last_digits_ascii 6 (s.fields.nanoseconds / 1000))
conversion_ascii s PointNanoseconds h = after_byte 46 _ (lit< tt) (nine_digits_ascii s.fields.nanoseconds)
conversion_ascii s LineFeed h = after_byte 10 [] (lit< tt) IsAscii-nil
conversion_ascii s Tab h = after_byte 9 [] (lit< tt) IsAscii-nil
conversion_ascii s Percent h = after_byte 37 [] (lit< tt) IsAscii-nil
