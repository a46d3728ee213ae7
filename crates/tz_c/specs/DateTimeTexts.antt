-- What the reader of printed date times answers, and the code of each part that it can miss.
use Rattle.std.specs.Prelude.{◌≡◌, ◌⊎◌, ℕ, false, pos, List, Some, None, if◌then◌else◌}
use Rattle.tz.specs.DateTimeGrammar.{IsDateTimeText, IsDateTimeTextFault}
use Rattle.tz.specs.declared.parse.DateTimePart.{DateTimePart}
use Rattle.tz.specs.declared.parse.DateTimePart.TheVariants as parts
use Rattle.tz.specs.declared.parse.ParseDateTimeError.{ParseDateTimeError}
use Rattle.tz.specs.declared.parse.ParsedDateTime.{ParsedDateTime}
use Rattle.tz_c.specs.DateTimeData.{IsUtcData}
use Rattle.tz_c.specs.declared.date_times.ParsedData.{ParsedData}

-- the local time and the offset that are written
abbrev pub parsed_of : ParsedData → ParsedDateTime
parsed_of p =
    record { local = p.local.fields; ut_offset = if p.has_offset then Some p.ut_offset else None }

-- the local time has its reading as its Unix time, and an offset that is not there is zero
pub record IsParsedData (p : ParsedData) : Type 0 where
  pub local_is : IsUtcData p.local
  pub zero : p.has_offset ≡ false → p.ut_offset ≡ pos 0

-- the code of a missing part
abbrev pub part_code : DateTimePart → ℕ
part_code parts.Year = 128
part_code parts.Hyphen = 129
part_code parts.Month = 130
part_code parts.MonthDay = 131
part_code parts.Separator = 132
part_code parts.Hour = 133
part_code parts.Colon = 134
part_code parts.Minute = 135
part_code parts.Second = 136
part_code parts.Fraction = 137
part_code parts.Offset = 138
part_code parts.OffsetHour = 139
part_code parts.OffsetMinute = 140
part_code parts.OffsetSecond = 141
part_code parts.End = 142

-- the text is one of a date time, which is written, or it lacks a part, whose code is returned
abbrev pub IsParsedAnswer : List ℕ → ℕ → ParsedData → Type 0
IsParsedAnswer text code written =
    ((code ≡ 0) × IsDateTimeText text (parsed_of written) × IsParsedData written)
    ⊎ ((e : ParseDateTimeError) × (code ≡ part_code e.expected) × IsDateTimeTextFault text e)
