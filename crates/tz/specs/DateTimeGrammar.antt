-- Texts of date times: RFC 3339, section 5.6, with years and offsets as they are printed, and with
-- or without an offset.
use Rattle.std.specs.Prelude.{◌≡◌, ℕ, ◌+◌, ◌-◌, ◌*◌, ◌^◌, ◌<◌, ◌≤◌, ◌⊎◌, ℤ, pos, neg_ℤ, ◌-ℤ◌, List, [], ◌∷◌, ◌++◌, length, Option, Some, None, FitsSigned}
use Rattle.std.specs.Char.{digit_value}
use Rattle.std.specs.Fmt.{decimal}
use Rattle.std.specs.Int.{w32}
use Rattle.std.specs.Str.Parse.{AllDigits, digits_value}
use Rattle.tz_base.specs.Days.{is_leap, month_length}
use Rattle.tz_base.specs.declared.fields.Fields.{Fields}
use Rattle.tz_zone.specs.TzText.{Begins}
use Rattle.tz_base.specs.Fields.{fields_of, reading}
use Rattle.tz.specs.DateTimes.{DateTime, IsPastTheEnd}
use Rattle.tz.specs.PrintedText.{two_digits}
use Rattle.tz.specs.GrammarSteps.{Grammar, one, ◌▸◌, done}
use Rattle.tz.specs.declared.parse.DateTimePart.{DateTimePart}
use Rattle.tz.specs.declared.parse.DateTimePart.TheVariants as parts
use Rattle.tz.specs.declared.parse.ParseDateTimeError.{ParseDateTimeError}
use Rattle.tz.specs.declared.parse.OffsetMark.{OffsetMark}
use Rattle.tz.specs.declared.parse.OffsetMark.TheVariants.{Absent, Utc, Ahead, Behind}
use Rattle.tz.specs.declared.parse.ParsedDateTime.{ParsedDateTime}

-- no digit stands first
abbrev pub EndsDigits : List ℕ → Type 0
EndsDigits [] = Unit {0}
EndsDigits (b ∷ bytes) = ¬ (digit_value b < 10)

-- all digits at the front, and what follows them
pub record IsDigits (text digits rest : List ℕ) : Type 0 where
  pub whole : text ≡ digits ++ rest
  pub all_digits : AllDigits 10 digits
  pub ends : EndsDigits rest

-- a number of two digits, in a range
abbrev pub IsPair : ℕ → ℕ → List ℕ → ℕ → List ℕ → Type 0
IsPair least greatest text n rest = (n < 100) × (text ≡ two_digits n ++ rest) × (least ≤ n)
    × (n ≤ greatest)

-- four digits or more, or those of a number as it is printed
abbrev pub AreYearDigits : List ℕ → Type 0
AreYearDigits digits = (4 ≤ length digits) ⊎ (digits ≡ decimal (digits_value 10 digits))

-- a year of 32 bits: a minus if it is negative, and its digits
abbrev pub IsYear : List ℕ → ℤ → List ℕ → Type 0
IsYear text y rest =
    (digits : List ℕ) × AreYearDigits digits × FitsSigned w32 y
    × ((IsDigits text digits rest × (y ≡ pos (digits_value 10 digits)))
    ⊎ ((unsigned : List ℕ) × (text ≡ 45 ∷ unsigned) × IsDigits unsigned digits rest
    × (y ≡ neg_ℤ (pos (digits_value 10 digits)))))

-- a byte
abbrev pub IsByte : ℕ → List ℕ → Unit {0} → List ℕ → Type 0
IsByte byte text value rest = text ≡ byte ∷ rest

-- `T`, `t` or a space
abbrev pub IsSeparator : List ℕ → Unit {0} → List ℕ → Type 0
IsSeparator text value rest = (text ≡ 84 ∷ rest) ⊎ (text ≡ 116 ∷ rest) ⊎ (text ≡ 32 ∷ rest)

-- the nanoseconds of a fraction of a second: of the digits after a point, the first counts tenths;
-- 0 without a point
abbrev pub IsFraction : List ℕ → ℕ → List ℕ → Type 0
IsFraction text n rest =
    (¬ Begins 46 text × (n ≡ 0) × (rest ≡ text))
    ⊎ ((after : List ℕ) × (digits : List ℕ) × (text ≡ 46 ∷ after) × IsDigits after digits rest
    × (1 ≤ length digits) × (length digits ≤ 9)
    × (n ≡ digits_value 10 digits * 10 ^ (9 - length digits)))

abbrev pub byte : DateTimePart → ℕ → Grammar (Unit {0})
byte part b = one part (IsByte b)

-- full-date: the fields at midnight
abbrev pub date : Grammar Fields
date =
    one parts.Year IsYear ▸ λ year.
    byte parts.Hyphen 45 ▸ λ hyphen.
    one parts.Month (IsPair 1 12) ▸ λ month.
    byte parts.Hyphen 45 ▸ λ hyphen'.
    one parts.MonthDay (IsPair 1 (month_length (is_leap year) month)) ▸ λ month_day.
    done (fields_of year month month_day 0 0 0 0)

-- a second of the minute of the fields: to 60, but to 59 in the last minute of all
abbrev pub IsSecond : Fields → ℕ → ℕ → List ℕ → ℕ → List ℕ → Type 0
IsSecond f hour minute text second rest =
    IsPair 0 60 text second rest × ¬ IsPastTheEnd
    (fields_of f.year f.month f.month_day hour minute second 0)

-- partial-time: the fields with it
abbrev pub time : Fields → Grammar Fields
time f =
    one parts.Hour (IsPair 0 23) ▸ λ hour.
    byte parts.Colon 58 ▸ λ colon.
    one parts.Minute (IsPair 0 59) ▸ λ minute.
    byte parts.Colon 58 ▸ λ colon'.
    one parts.Second (IsSecond f hour minute) ▸ λ second.
    one parts.Fraction IsFraction ▸ λ nanoseconds.
    done (fields_of f.year f.month f.month_day hour minute second nanoseconds)

-- with what an offset begins: none, `Z`, `+` or `-`
abbrev pub IsMark : List ℕ → OffsetMark → List ℕ → Type 0
IsMark text Absent rest = (text ≡ []) × (rest ≡ [])
IsMark text Utc rest = (text ≡ 90 ∷ rest) ⊎ (text ≡ 122 ∷ rest)
IsMark text Ahead rest = text ≡ 43 ∷ rest
IsMark text Behind rest = text ≡ 45 ∷ rest

-- hours of two digits or more; with them, and then with minutes and seconds, an offset is below
-- 2^31 seconds
abbrev pub IsHours : List ℕ → ℕ → List ℕ → Type 0
IsHours text hours rest =
    (digits : List ℕ) × IsDigits text digits rest × (2 ≤ length digits)
    × (hours ≡ digits_value 10 digits) × (3600 * hours < 2 ^ 31)

abbrev pub IsMinutes : ℕ → List ℕ → ℕ → List ℕ → Type 0
IsMinutes hours text minutes rest = IsPair 0 59 text minutes rest
    × (3600 * hours + 60 * minutes < 2 ^ 31)

abbrev pub IsSeconds : ℕ → ℕ → List ℕ → ℕ → List ℕ → Type 0
IsSeconds hours minutes text seconds rest =
    ((¬ Begins 58 text × (seconds ≡ 0) × (rest ≡ text))
    ⊎ ((after : List ℕ) × (text ≡ 58 ∷ after) × IsPair 0 59 after seconds rest))
    × (3600 * hours + 60 * minutes + seconds < 2 ^ 31)

-- time-numoffset without its sign, in seconds
abbrev pub duration : Grammar ℕ
duration =
    one parts.OffsetHour IsHours ▸ λ hours.
    byte parts.Colon 58 ▸ λ colon.
    one parts.OffsetMinute (IsMinutes hours) ▸ λ minutes.
    one parts.OffsetSecond (IsSeconds hours minutes) ▸ λ seconds.
    done (3600 * hours + 60 * minutes + seconds)

-- what follows the mark of an offset
abbrev pub after_mark : OffsetMark → Grammar (Option ℤ)
after_mark Absent = done None
after_mark Utc = done (Some (pos 0))
after_mark Ahead = duration ▸ λ seconds. done (Some (pos seconds))
after_mark Behind = duration ▸ λ seconds. done (Some (neg_ℤ (pos seconds)))

-- time-offset, or none
abbrev pub offset : Grammar (Option ℤ)
offset = one parts.Offset IsMark ▸ after_mark

-- nothing follows
abbrev pub IsEnd : List ℕ → Unit {0} → List ℕ → Type 0
IsEnd text value rest = (text ≡ []) × (rest ≡ [])

-- date-time
abbrev pub date_time : Grammar ParsedDateTime
date_time =
    date ▸ λ f.
    one parts.Separator IsSeparator ▸ λ separator.
    time f ▸ λ local.
    offset ▸ λ ut_offset.
    one parts.End IsEnd ▸ λ end.
    done (record { local = local; ut_offset = ut_offset })

-- the text is one of this date time
abbrev pub IsDateTimeText : List ℕ → ParsedDateTime → Type 0
IsDateTimeText text p = date_time.reads text p []

-- the text is read as the fields, the offset and the Unix time of the date time
abbrev pub IsTextOf : List ℕ → DateTime → Type 0
IsTextOf text d =
    (p : ParsedDateTime) × IsDateTimeText text p
    × (p.local ≡ d.fields) × (p.ut_offset ≡ Some d.local_time_type.ut_offset)
    × ((reading p.local -ℤ d.local_time_type.ut_offset) ≡ d.unix_time)

-- the text is none, because of this part at this byte: as many bytes stand before its position
abbrev pub IsDateTimeTextFault : List ℕ → ParseDateTimeError → Type 0
IsDateTimeTextFault text e = (rest : List ℕ) × date_time.misses text e.expected rest
    × (e.position + length rest ≡ length text)
