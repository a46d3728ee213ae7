-- How conversions are spelled after a `%`: by a letter, those of offsets and of fractions of a
-- second by several.
use Rattle.std.specs.Prelude.{ℕ, ◌+◌, ◌-◌, ◌==◌, ◌&&◌, ◌||◌, if◌then◌else◌, List, [], ◌∷◌, Option, Some, None, option_map, slice_index, codes}
use Rattle.tz_format.specs.declared.conversion.Conversion.{Conversion}
use Rattle.tz_format.specs.declared.conversion.Conversion.TheVariants.{Year, YearOfCentury, WeekYear, WeekYearOfCentury, Month, MonthName, ShortMonthName, MonthDay, SpacedMonthDay, YearDay, Hour, SpacedHour, HalfDayHour, HalfDay, Minute, Second, WeekDayName, ShortWeekDayName, WeekDayFromMonday, WeekDayFromSunday, Week, WeekFromSunday, WeekFromMonday, UnixTime, Offset, OffsetWithColon, Designation, Date, DateWithSlashes, Time, TimeToMinutes, Milliseconds, Microseconds, Nanoseconds, PointMilliseconds, PointMicroseconds, PointNanoseconds, LineFeed, Tab, Percent}

-- the letters, and the conversion of each, in one order
abbrev pub letters : List ℕ
letters = codes "YyGgmBbhdejHkIpMSAauwVUWszZFDTRnt%"

abbrev pub conversions : List Conversion
conversions = Year ∷ YearOfCentury ∷ WeekYear ∷ WeekYearOfCentury ∷ Month ∷ MonthName
    ∷ ShortMonthName ∷ ShortMonthName ∷ MonthDay ∷ SpacedMonthDay ∷ YearDay ∷ Hour ∷ SpacedHour
    ∷ HalfDayHour ∷ HalfDay ∷ Minute ∷ Second ∷ WeekDayName ∷ ShortWeekDayName ∷ WeekDayFromMonday
    ∷ WeekDayFromSunday ∷ Week ∷ WeekFromSunday ∷ WeekFromMonday ∷ UnixTime ∷ Offset ∷ Designation
    ∷ Date ∷ DateWithSlashes ∷ Time ∷ TimeToMinutes ∷ LineFeed ∷ Tab ∷ Percent ∷ []

-- the conversion at the letter's position in the table
abbrev pub at_letter : List ℕ → List Conversion → ℕ → Option Conversion
at_letter [] cs letter = None
at_letter (l ∷ ls) [] letter = None
at_letter (l ∷ ls) (c ∷ cs) letter = if letter == l then Some c else at_letter ls cs letter

-- the conversion that one letter spells
unfoldable pub letter_conversion : ℕ → Option Conversion
letter_conversion letter = at_letter letters conversions letter

-- how many digits a fraction has that `3f`, `6f` or `9f` spells at a position
unfoldable pub fraction_at : List ℕ → ℕ → Option ℕ
fraction_at text position =
    let digit = slice_index text position in
    if (digit == 51 || digit == 54 || digit == 57) && slice_index text (position + 1) == 102
    then Some (digit - 48)
    else None

-- the conversion of a fraction of so many digits, alone and after a point
abbrev pub fraction_conversion : ℕ → Conversion
fraction_conversion digits = if digits == 3 then Milliseconds
    else (if digits == 6 then Microseconds else Nanoseconds)

abbrev pub point_conversion : ℕ → Conversion
point_conversion digits = if digits == 3 then PointMilliseconds
    else (if digits == 6 then PointMicroseconds else PointNanoseconds)

-- a conversion that so many bytes spell, if there is one
abbrev pub spelled_in : ℕ → Option Conversion → Option (Conversion × ℕ)
spelled_in count None = None
spelled_in count (Some c) = Some (c, count)

-- the conversion that the bytes from a position on spell, and how many of them do: a colon, a point
-- or a digit begins a spelling of several bytes
unfoldable pub conversion_at : List ℕ → ℕ → Option (Conversion × ℕ)
conversion_at text position =
    let letter = slice_index text position in
    if letter == 58
    then (if slice_index text (position + 1) == 122 then Some (OffsetWithColon, 2) else None)
    else (if letter == 46
    then spelled_in 3 (option_map point_conversion (fraction_at text (position + 1)))
    else (if letter == 51 || letter == 54 || letter == 57
    then spelled_in 2 (option_map fraction_conversion (fraction_at text position))
    else spelled_in 1 (letter_conversion letter)))
