-- What a text is read as: the date time that a pattern prints as it, of those with years from 0 to
-- 9999 and offsets of whole minutes below 100 hours.
use Rattle.std.specs.Prelude.{◌≡◌, ℕ, ◌+◌, ◌*◌, ◌/◌, ◌%◌, ◌<◌, ◌==◌, ◌||◌, ◌&&◌, if◌then◌else◌, Bool, true, false, ℤ, pos, neg_ℤ, slice_index, get_or, set, List, [], ◌∷◌, length, unsigned_abs, Option, Some, None}
use Rattle.tz_base.specs.declared.fields.Fields.{Fields}
use Rattle.tz_format.specs.Names.{month_name}
use Rattle.tz_format.specs.Patterns.{Item, Converted, items_of, text_of}
use Rattle.tz_format.specs.Shown.{Shown, IsShown}
use Rattle.tz_format.specs.declared.read.ReadPatternError.{ReadPatternError}
use Rattle.tz_format.specs.declared.read.ReadPatternError.TheVariants.{NotReadable, Mismatch}
use Rattle.tz_format.specs.declared.conversion.Conversion.{Conversion}
use Rattle.tz_format.specs.declared.conversion.Conversion.TheVariants.{Year, YearOfCentury, WeekYear, WeekYearOfCentury, Month, MonthName, ShortMonthName, MonthDay, SpacedMonthDay, YearDay, Hour, SpacedHour, HalfDayHour, HalfDay, Minute, Second, WeekDayName, ShortWeekDayName, WeekDayFromMonday, WeekDayFromSunday, UnixTime, Offset, OffsetWithColon, Designation, Date, DateWithSlashes, Time, TimeToMinutes, Milliseconds, Microseconds, Nanoseconds, PointMilliseconds, PointMicroseconds, PointNanoseconds, LineFeed, Tab, Percent}

-- the parts of a date time that a pattern shows, by number: the year, the month, the day of the
-- month, the half of the day, the hour in it, the minute, the second, its milliseconds, the
-- microseconds and nanoseconds beyond these, and the offset
unfoldable pub value : Shown → ℕ → ℤ
value s k = if k == 0 then s.fields.year
    else (if k == 1 then pos s.fields.month
    else (if k == 2 then pos s.fields.month_day
    else (if k == 3 then pos (s.fields.hour / 12)
    else (if k == 4 then pos (s.fields.hour % 12)
    else (if k == 5 then pos s.fields.minute
    else (if k == 6 then pos s.fields.second
    else (if k == 7 then pos (s.fields.nanoseconds / 1000000)
    else (if k == 8 then pos (s.fields.nanoseconds / 1000 % 1000)
    else (if k == 9 then pos (s.fields.nanoseconds % 1000)
    else (if k == 10 then s.ut_offset
    else pos 0))))))))))

-- the parts that a conversion shows; 11 if it depends on the year, and 12 if it depends on the
-- whole date, without showing them
unfoldable pub parts_of : Conversion → List ℕ
parts_of Year = 0 ∷ []
parts_of YearOfCentury = 11 ∷ []
parts_of WeekYearOfCentury = 12 ∷ []
parts_of Month = 1 ∷ []
parts_of MonthName = 1 ∷ []
parts_of ShortMonthName = 1 ∷ []
parts_of MonthDay = 2 ∷ []
parts_of SpacedMonthDay = 2 ∷ []
parts_of YearDay = 12 ∷ []
parts_of Hour = 3 ∷ 4 ∷ []
parts_of SpacedHour = 3 ∷ 4 ∷ []
parts_of HalfDayHour = 4 ∷ []
parts_of HalfDay = 3 ∷ []
parts_of Minute = 5 ∷ []
parts_of Second = 6 ∷ []
parts_of Offset = 10 ∷ []
parts_of OffsetWithColon = 10 ∷ []
parts_of Date = 0 ∷ 1 ∷ 2 ∷ []
parts_of DateWithSlashes = 1 ∷ 2 ∷ 11 ∷ []
parts_of Time = 3 ∷ 4 ∷ 5 ∷ 6 ∷ []
parts_of TimeToMinutes = 3 ∷ 4 ∷ 5 ∷ []
parts_of Milliseconds = 7 ∷ []
parts_of Microseconds = 7 ∷ 8 ∷ []
parts_of Nanoseconds = 7 ∷ 8 ∷ 9 ∷ []
parts_of PointMilliseconds = 7 ∷ []
parts_of PointMicroseconds = 7 ∷ 8 ∷ []
parts_of PointNanoseconds = 7 ∷ 8 ∷ 9 ∷ []
parts_of c = []

-- the part is one of these
abbrev pub is_part : ℕ → List ℕ → Bool
is_part k [] = false
is_part k (part ∷ parts) = part == k || is_part k parts

-- an item shows the part
abbrev pub are_shown : ℕ → List Item → Bool
are_shown part [] = false
are_shown part (Converted c spelled ∷ items) = is_part part (parts_of c) || are_shown part items
are_shown part (item ∷ items) = are_shown part items

-- all conversions are read but those of the Unix time, of the name and of the year of the week
unfoldable pub is_read : Conversion → Bool
is_read WeekYear = false
is_read UnixTime = false
is_read Designation = false
is_read c = true

-- each conversion of the items is one that is read
abbrev pub are_read : List Item → Bool
are_read [] = true
are_read (Converted c spelled ∷ items) = is_read c && are_read items
are_read (item ∷ items) = are_read items

-- no part is shown by halves: the half of the day and the hour in it are shown, or neither is, and
-- the year or the date is shown if something depends on it
abbrev pub is_whole : (ℕ → Bool) → Bool
is_whole shows = (if shows 3 then shows 4 else (if shows 4 then false else true))
    && (if shows 11 then shows 0 else true)
    && (if shows 12 then shows 0 && shows 1 && shows 2 else true)

abbrev pub are_readable : List Item → Bool
are_readable items = are_read items && is_whole (λ part. are_shown part items)

-- the number of the digit at a position, 0 of a space, and of two and three digits from there
abbrev pub digit : List ℕ → ℕ → ℕ
digit text position = slice_index text position % 16

abbrev pub pair : List ℕ → ℕ → ℕ
pair text position = 10 * digit text position + digit text (position + 1)

abbrev pub triple : List ℕ → ℕ → ℕ
triple text position = 100 * digit text position + pair text (position + 1)

-- the month whose name begins with these letters, by those that differ
unfoldable pub month_of : ℕ → ℕ → ℕ → ℕ
month_of first second third =
    if first == 74 then (if second == 97 then 1 else (if third == 110 then 6 else 7))
    else (if first == 70 then 2
    else (if first == 77 then (if third == 114 then 3 else 5)
    else (if first == 65 then (if second == 112 then 4 else 8)
    else (if first == 83 then 9
    else (if first == 79 then 10
    else (if first == 78 then 11 else 12))))))

-- the month whose name the text begins with
abbrev pub month_read : List ℕ → ℕ
month_read text = month_of (slice_index text 0) (slice_index text 1) (slice_index text 2)

-- how many letters the name of a week day has that begins with these
unfoldable pub week_day_width : ℕ → ℕ → ℕ
week_day_width first second =
    if first == 87 then 9
    else (if first == 84 then (if second == 117 then 7 else 8)
    else (if first == 83 then (if second == 117 then 6 else 8) else 6))

-- the offset from its sign, its hours, and its minutes from a position on
unfoldable pub offset_read : List ℕ → ℕ → ℤ
offset_read text minutes =
    let size = 60 * (60 * pair text 1 + pair text minutes) in
    if slice_index text 0 == 45 then neg_ℤ (pos size) else pos size

-- the half of the day of an hour, and the hour in it
abbrev pub hour_read : ℕ → ℕ → ℤ
hour_read k hour = if k == 3 then pos (hour / 12) else pos (hour % 12)

-- three, six and nine digits of a fraction from a position on
abbrev pub fraction_read : ℕ → List ℕ → ℕ → ℤ
fraction_read k text position = if k == 7 then pos (triple text position)
    else (if k == 8 then pos (triple text (position + 3)) else pos (triple text (position + 6)))

-- the value of a part that a conversion shows, if the text begins with what it prints
unfoldable pub value_read : Conversion → ℕ → List ℕ → ℤ
value_read Year k text = pos (100 * pair text 0 + pair text 2)
value_read YearOfCentury k text = pos 0
value_read WeekYearOfCentury k text = pos 0
value_read YearDay k text = pos 0
value_read MonthName k text = pos (month_read text)
value_read ShortMonthName k text = pos (month_read text)
value_read Hour k text = hour_read k (pair text 0)
value_read SpacedHour k text = hour_read k (pair text 0)
value_read HalfDayHour k text = pos (pair text 0 % 12)
value_read HalfDay k text = if slice_index text 0 == 80 then pos 1 else pos 0
value_read Date k text = if k == 0 then pos (100 * pair text 0 + pair text 2)
    else (if k == 1 then pos (pair text 5) else pos (pair text 8))
value_read DateWithSlashes k text = if k == 1 then pos (pair text 0)
    else (if k == 2 then pos (pair text 3) else pos 0)
value_read Time k text = if k == 5 then pos (pair text 3)
    else (if k == 6 then pos (pair text 6) else hour_read k (pair text 0))
value_read TimeToMinutes k text = if k == 5 then pos (pair text 3) else hour_read k (pair text 0)
value_read Milliseconds k text = fraction_read k text 0
value_read Microseconds k text = fraction_read k text 0
value_read Nanoseconds k text = fraction_read k text 0
value_read PointMilliseconds k text = fraction_read k text 1
value_read PointMicroseconds k text = fraction_read k text 1
value_read PointNanoseconds k text = fraction_read k text 1
value_read Offset k text = offset_read text 3
value_read OffsetWithColon k text = offset_read text 4
value_read c k text = pos (pair text 0)

-- how many bytes the text of a conversion has that begins like this
unfoldable pub read_width : Conversion → List ℕ → ℕ
read_width Year text = 4
read_width MonthName text = length (month_name (month_read text))
read_width ShortMonthName text = 3
read_width YearDay text = 3
read_width WeekDayName text = week_day_width (slice_index text 0) (slice_index text 1)
read_width ShortWeekDayName text = 3
read_width WeekDayFromMonday text = 1
read_width WeekDayFromSunday text = 1
read_width Offset text = 5
read_width OffsetWithColon text = 6
read_width Date text = 10
read_width DateWithSlashes text = 8
read_width Time text = 8
read_width TimeToMinutes text = 5
read_width Milliseconds text = 3
read_width Microseconds text = 6
read_width Nanoseconds text = 9
read_width PointMilliseconds text = 4
read_width PointMicroseconds text = 7
read_width PointNanoseconds text = 10
read_width LineFeed text = 1
read_width Tab text = 1
read_width Percent text = 1
read_width c text = 2

-- a list with the values at some positions
abbrev pub set_all : {A : Type 0} → List ℕ → (ℕ → A) → List A → List A
set_all [] values xs = xs
set_all (part ∷ parts) values xs = set_all parts values (set xs part (values part))

-- date times that are read: years from 0 to 9999 and offsets of whole minutes below 100 hours, of
-- which no name and no Unix time is shown
pub record IsPlain (s : Shown) : Type 0 where
  pub shown : IsShown s
  pub year : (y : ℕ) × (y < 10000) × (s.fields.year ≡ pos y)
  pub offset : (m : ℕ) × (m < 6000) × (unsigned_abs s.ut_offset ≡ 60 * m)
  pub no_name : s.designation ≡ []
  pub no_time : s.unix_time ≡ pos 0

-- the pattern prints the text of the date time, and each part that it does not show is zero
pub record IsReading (pattern text : List ℕ) (s : Shown) : Type 0 where
  pub plain : IsPlain s
  pub prints : text ≡ text_of pattern s
  pub hidden : (k : ℕ) → k < 11 → are_shown k (items_of pattern) ≡ false → value s k ≡ pos 0

-- the offset, if the pattern shows it
abbrev pub offset_shown : List ℕ → Shown → Option ℤ
offset_shown pattern s = if are_shown 10 (items_of pattern) then Some s.ut_offset else None

-- the local time and the offset of a reading
abbrev pub IsReadAs : List ℕ → List ℕ → Fields → Option ℤ → Shown → Type 0
IsReadAs pattern text local ut_offset s =
    IsReading pattern text s × (local ≡ s.fields) × (ut_offset ≡ offset_shown pattern s)

-- a pattern that is read
abbrev pub IsReadablePattern : List ℕ → Type 0
IsReadablePattern pattern = are_readable (items_of pattern) ≡ true

-- why a text is not read: the pattern is not, or no date time has the text
abbrev pub IsReadFault : List ℕ → List ℕ → ReadPatternError → Type 0
IsReadFault pattern text NotReadable = are_readable (items_of pattern) ≡ false
IsReadFault pattern text (Mismatch position) =
    IsReadablePattern pattern × ((s : Shown) → IsReading pattern text s → ⊥)

-- what is read in one pass: the parts of each date time that the text can be of, 0 for those that
-- are not shown, and whether the offset is
pub record IsGuess (pattern text : List ℕ) (values : List ℤ) (has_offset : Bool) : Type 0 where
  pub readable : IsReadablePattern pattern
  pub values_are : (s : Shown) → IsReading pattern text s → (k : ℕ) → k < 11
      → get_or values k (pos 0) ≡ value s k
  pub hidden : (k : ℕ) → k < 11 → are_shown k (items_of pattern) ≡ false
      → get_or values k (pos 0) ≡ pos 0
  pub offset : has_offset ≡ are_shown 10 (items_of pattern)

-- the values are the parts of a date time
abbrev pub AreParts : List ℤ → Shown → Type 0
AreParts values s = (k : ℕ) → k < 11 → get_or values k (pos 0) ≡ value s k
