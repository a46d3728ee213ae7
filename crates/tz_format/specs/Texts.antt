-- What each conversion prints, in the words of POSIX's strftime: in the locale of C, with years of
-- four digits or more, and without its flags, widths and modifiers.
use Rattle.std.specs.Prelude.{ℕ, suc, ◌+◌, ◌/◌, ◌%◌, nat_lt, if◌then◌else◌, Bool, true, false, ℤ, pos, negsuc, List, [], ◌∷◌, ◌++◌, codes, unsigned_abs}
use Rattle.std.specs.Fmt.{decimal, signed_decimal}
use Rattle.std.specs.Int.{int_rem_euclid}
use Rattle.tz.specs.PrintedText.{last_digits, two_digits, two_digits_or_more, nine_digits}
use Rattle.tz_format.specs.Names.{month_name, week_day_name, short}
use Rattle.tz_format.specs.Shown.{Shown}
use Rattle.tz_format.specs.Weeks.{week_day, days_since_monday, year_day, week_of_year, week_of}
use Rattle.tz_format.specs.declared.conversion.Conversion.{Conversion}
use Rattle.tz_format.specs.declared.conversion.Conversion.TheVariants.{Year, YearOfCentury, WeekYear, WeekYearOfCentury, Month, MonthName, ShortMonthName, MonthDay, SpacedMonthDay, YearDay, Hour, SpacedHour, HalfDayHour, HalfDay, Minute, Second, WeekDayName, ShortWeekDayName, WeekDayFromMonday, WeekDayFromSunday, Week as WeekNumber, WeekFromSunday, WeekFromMonday, UnixTime, Offset, OffsetWithColon, Designation, Date, DateWithSlashes, Time, TimeToMinutes, Milliseconds, Microseconds, Nanoseconds, PointMilliseconds, PointMicroseconds, PointNanoseconds, LineFeed, Tab, Percent}

-- four digits at least
unfoldable pub four_digits_or_more : ℕ → List ℕ
four_digits_or_more n = if nat_lt n 10000 then last_digits 4 n else decimal n

-- a year, with `-` before one below 0
unfoldable pub year_text : ℤ → List ℕ
year_text (pos n) = four_digits_or_more n
year_text (negsuc n) = 45 ∷ four_digits_or_more (suc n)

-- the last two digits of a year, which grow from 00 to 99 in years below 0 too
abbrev pub year_of_century : ℤ → ℕ
year_of_century year = unsigned_abs (int_rem_euclid year (pos 100))

-- two bytes: a space in the place of a first zero
unfoldable pub spaced_digits : ℕ → List ℕ
spaced_digits n = if nat_lt n 10 then 32 ∷ (48 + n) ∷ [] else two_digits n

-- the hour on a clock of twelve hours
abbrev pub half_day_hour : ℕ → ℕ
half_day_hour hour = (hour + 11) % 12 + 1

-- AM before noon, PM from noon on
abbrev pub half_day : ℕ → List ℕ
half_day hour = if nat_lt hour 12 then codes "AM" else codes "PM"

abbrev pub three_digits : ℕ → List ℕ
three_digits n = last_digits 3 n

abbrev pub six_digits : ℕ → List ℕ
six_digits n = last_digits 6 n

-- the hours, two digits or more, and the minutes of this many seconds, with a colon between or not
unfoldable pub hours_and_minutes : Bool → ℕ → List ℕ
hours_and_minutes colon seconds =
    two_digits_or_more (seconds / 3600)
    ++ (if colon then 58 ∷ two_digits ((seconds / 60) % 60) else two_digits ((seconds / 60) % 60))

-- the sign of an offset, its hours and its minutes
unfoldable pub offset_digits : Bool → ℤ → List ℕ
offset_digits colon (pos n) = 43 ∷ hours_and_minutes colon n
offset_digits colon (negsuc n) = 45 ∷ hours_and_minutes colon (suc n)

-- the name of the type, or the offset if there is none
abbrev pub zone_text : ℤ → List ℕ → List ℕ
zone_text offset [] = offset_digits true offset
zone_text offset (byte ∷ name) = byte ∷ name

-- the text of a conversion
unfoldable pub conversion_text : Shown → Conversion → List ℕ
-- the year, and its last two digits
conversion_text s Year = year_text s.fields.year
conversion_text s YearOfCentury = two_digits (year_of_century s.fields.year)
-- the year of the ISO 8601 week, and its last two digits
conversion_text s WeekYear = year_text (week_of s.fields).year
conversion_text s WeekYearOfCentury = two_digits (year_of_century (week_of s.fields).year)
-- the month as a decimal number [01,12], its full name, and its abbreviated name
conversion_text s Month = two_digits s.fields.month
conversion_text s MonthName = month_name s.fields.month
conversion_text s ShortMonthName = short (month_name s.fields.month)
-- the day of the month as a decimal number [01,31], a single digit with a space before it, and the
-- day of the year as a decimal number [001,366]
conversion_text s MonthDay = two_digits s.fields.month_day
conversion_text s SpacedMonthDay = spaced_digits s.fields.month_day
conversion_text s YearDay = three_digits (year_day s.fields + 1)
-- the hour (24-hour clock) as a decimal number [00,23], and with a space; the hour (12-hour clock)
-- as a decimal number [01,12], and a.m. or p.m.
conversion_text s Hour = two_digits s.fields.hour
conversion_text s SpacedHour = spaced_digits s.fields.hour
conversion_text s HalfDayHour = two_digits (half_day_hour s.fields.hour)
conversion_text s HalfDay = half_day s.fields.hour
-- the minute as a decimal number [00,59], and the second as a decimal number [00,60]
conversion_text s Minute = two_digits s.fields.minute
conversion_text s Second = two_digits s.fields.second
-- the full and the abbreviated name of the week day, and its number: [1,7], with 1 representing
-- Monday, and [0,6], with 0 representing Sunday
conversion_text s WeekDayName = week_day_name (week_day s.fields)
conversion_text s ShortWeekDayName = short (week_day_name (week_day s.fields))
conversion_text s WeekDayFromMonday = (49 + days_since_monday s.fields) ∷ []
conversion_text s WeekDayFromSunday = (48 + week_day s.fields) ∷ []
-- the week number of ISO 8601 as a decimal number [01,53], and the week number of the year, of
-- weeks that begin on Sunday, and on Monday, as a decimal number [00,53]
conversion_text s WeekNumber = two_digits (week_of s.fields).number
conversion_text s WeekFromSunday =
    two_digits (week_of_year (year_day s.fields) (week_day s.fields))
conversion_text s WeekFromMonday =
    two_digits (week_of_year (year_day s.fields) (days_since_monday s.fields))
-- seconds since the Epoch
conversion_text s UnixTime = signed_decimal s.unix_time
-- the offset from UTC in the ISO 8601 format (+hhmm or -hhmm), and with a colon; the timezone name
conversion_text s Offset = offset_digits false s.ut_offset
conversion_text s OffsetWithColon = offset_digits true s.ut_offset
conversion_text s Designation = zone_text s.ut_offset s.designation
-- %Y-%m-%d, %m/%d/%y, %H:%M:%S and %H:%M
conversion_text s Date = year_text s.fields.year
    ++ (45 ∷ two_digits s.fields.month ++ (45 ∷ two_digits s.fields.month_day))
conversion_text s DateWithSlashes = two_digits s.fields.month
    ++ (47 ∷ two_digits s.fields.month_day ++ (47 ∷ two_digits (year_of_century s.fields.year)))
conversion_text s Time = two_digits s.fields.hour
    ++ (58 ∷ two_digits s.fields.minute ++ (58 ∷ two_digits s.fields.second))
conversion_text s TimeToMinutes = two_digits s.fields.hour ++ (58 ∷ two_digits s.fields.minute)
-- the fraction of the second, cut to three, six or nine digits, alone and after a point
conversion_text s Milliseconds = three_digits (s.fields.nanoseconds / 1000000)
conversion_text s Microseconds = six_digits (s.fields.nanoseconds / 1000)
conversion_text s Nanoseconds = nine_digits s.fields.nanoseconds
conversion_text s PointMilliseconds = 46 ∷ three_digits (s.fields.nanoseconds / 1000000)
conversion_text s PointMicroseconds = 46 ∷ six_digits (s.fields.nanoseconds / 1000)
conversion_text s PointNanoseconds = 46 ∷ nine_digits s.fields.nanoseconds
-- a newline, a tab and %
conversion_text s LineFeed = 10 ∷ []
conversion_text s Tab = 9 ∷ []
conversion_text s Percent = 37 ∷ []
