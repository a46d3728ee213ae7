-- What is printed of the part of a date time that a text does not have.
use Rattle.std.specs.Prelude.{ℕ, List, codes}
use Rattle.tz.specs.declared.parse.DateTimePart.{DateTimePart}
use Rattle.tz.specs.declared.parse.DateTimePart.TheVariants as parts

-- the part and its form
abbrev pub part_text : DateTimePart → List ℕ
part_text parts.Year = codes "a year of four digits or more"
part_text parts.Hyphen = codes "`-`"
part_text parts.Month = codes "a month from 01 to 12"
part_text parts.MonthDay = codes "a day of the month"
part_text parts.Separator = codes "`T` or a space"
part_text parts.Hour = codes "an hour from 00 to 23"
part_text parts.Colon = codes "`:`"
part_text parts.Minute = codes "a minute from 00 to 59"
part_text parts.Second = codes "a second from 00 to 60"
part_text parts.Fraction = codes "a fraction of one to nine digits"
part_text parts.Offset = codes "`Z`, the sign of an offset or the end"
part_text parts.OffsetHour = codes "the hours of an offset in two digits"
part_text parts.OffsetMinute = codes "the minutes of an offset from 00 to 59"
part_text parts.OffsetSecond = codes "the seconds of an offset from 00 to 59"
part_text parts.End = codes "the end"
