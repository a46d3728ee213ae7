-- The most bytes that conversions print.
use Rattle.std.specs.Prelude.{ℕ}
use Rattle.tz_format.specs.declared.conversion.Conversion.{Conversion}
use Rattle.tz_format.specs.declared.conversion.Conversion.TheVariants.{Year, YearOfCentury, WeekYear, WeekYearOfCentury, Month, MonthName, ShortMonthName, MonthDay, SpacedMonthDay, YearDay, Hour, SpacedHour, HalfDayHour, HalfDay, Minute, Second, WeekDayName, ShortWeekDayName, WeekDayFromMonday, WeekDayFromSunday, Week, WeekFromSunday, WeekFromMonday, UnixTime, Offset, OffsetWithColon, Designation, Date, DateWithSlashes, Time, TimeToMinutes, Milliseconds, Microseconds, Nanoseconds, PointMilliseconds, PointMicroseconds, PointNanoseconds, LineFeed, Tab, Percent}

-- the most bytes that a conversion prints, which all conversions reach at once: on a Wednesday in
-- September of the first years, with the offset of least value and no name
unfoldable pub conversion_width : Conversion → ℕ
conversion_width Year = 11
conversion_width YearOfCentury = 2
conversion_width WeekYear = 11
conversion_width WeekYearOfCentury = 2
conversion_width Month = 2
conversion_width MonthName = 9
conversion_width ShortMonthName = 3
conversion_width MonthDay = 2
conversion_width SpacedMonthDay = 2
conversion_width YearDay = 3
conversion_width Hour = 2
conversion_width SpacedHour = 2
conversion_width HalfDayHour = 2
conversion_width HalfDay = 2
conversion_width Minute = 2
conversion_width Second = 2
conversion_width WeekDayName = 9
conversion_width ShortWeekDayName = 3
conversion_width WeekDayFromMonday = 1
conversion_width WeekDayFromSunday = 1
conversion_width Week = 2
conversion_width WeekFromSunday = 2
conversion_width WeekFromMonday = 2
conversion_width UnixTime = 18
conversion_width Offset = 9
conversion_width OffsetWithColon = 10
conversion_width Designation = 10
conversion_width Date = 17
conversion_width DateWithSlashes = 8
conversion_width Time = 8
conversion_width TimeToMinutes = 5
conversion_width Milliseconds = 3
conversion_width Microseconds = 6
conversion_width Nanoseconds = 9
conversion_width PointMilliseconds = 4
conversion_width PointMicroseconds = 7
conversion_width PointNanoseconds = 10
conversion_width LineFeed = 1
conversion_width Tab = 1
conversion_width Percent = 1
