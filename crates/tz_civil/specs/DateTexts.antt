-- Texts of dates: full-date of RFC 3339, section 5.6, with years as they are printed. A full-date
-- is what makes a date-time with `T` and a time after it.
use Rattle.std.specs.Prelude.{◌≡◌, ℕ, ◌<◌, ◌≤◌, ◌⊎◌, List, [], ◌∷◌, ◌++◌, length}
use Rattle.tz.specs.DateTimeGrammar.{IsDateTimeText, IsDateTimeTextFault}
use Rattle.tz.specs.declared.parse.DateTimePart.{DateTimePart}
use Rattle.tz.specs.declared.parse.DateTimePart.TheVariants.{Separator, End}
use Rattle.tz.specs.declared.parse.ParseDateTimeError.{ParseDateTimeError}
use Rattle.tz.specs.declared.parse.ParsedDateTime.{ParsedDateTime}
use Rattle.tz_civil.specs.Dates.{Date, date_of}

-- `T00:00:00.000000000Z`
abbrev pub midnight_text : List ℕ
midnight_text = 84 ∷ 48 ∷ 48 ∷ 58 ∷ 48 ∷ 48 ∷ 58 ∷ 48 ∷ 48 ∷ 46 ∷ 48 ∷ 48 ∷ 48 ∷ 48 ∷ 48 ∷ 48 ∷ 48
    ∷ 48 ∷ 48 ∷ 90 ∷ []

-- the text, of at most 100 bytes, with a midnight after it is that of a date time on the date
abbrev pub IsDateText : List ℕ → Date → Type 0
IsDateText text d =
    (length text ≤ 100) × (p : ParsedDateTime) × IsDateTimeText (text ++ midnight_text) p
    × (d ≡ date_of p.local.year p.local.month p.local.month_day)

-- the part that is missing in a date, in whose text the end stands for a separator
abbrev pub part_of_date : DateTimePart → DateTimePart
part_of_date Separator = End
part_of_date part = part

-- the text is none of a date: it is too long, or misses this part of a date time, or the end
abbrev pub IsDateTextFault : List ℕ → ParseDateTimeError → Type 0
IsDateTextFault text e = ((100 < length text) × (e ≡ record { expected = End; position = 100 }))
    ⊎ ((length text ≤ 100) × (missing : DateTimePart)
    × IsDateTimeTextFault (text ++ midnight_text)
    (record { expected = missing; position = e.position })
    × (e.expected ≡ part_of_date missing))
