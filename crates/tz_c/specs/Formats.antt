-- What calls answer that print date times by patterns, and that read them.
use Rattle.std.specs.Prelude.{◌≡◌, ◌≢◌, ◌⊎◌, ℕ, List, IsUtf8, codes}
use Rattle.tz_format.specs.Patterns.{IsPattern, IsPatternFault, text_of}
use Rattle.tz_format.specs.Readings.{IsReadAs, IsReadFault}
use Rattle.tz_format.specs.Shown.{Shown}
use Rattle.tz_format.specs.declared.pattern.PatternError.{PatternError}
use Rattle.tz_format.specs.declared.pattern.PatternError.TheVariants as patterns
use Rattle.tz_format.specs.declared.read.ReadPatternError.{ReadPatternError}
use Rattle.tz_format.specs.declared.read.ReadPatternError.TheVariants as readings
use Rattle.tz_c.specs.Codes.{pattern_mismatch, pattern_not_readable, pattern_of_utc, pattern_too_long, pattern_unknown_conversion, pattern_utf8}
use Rattle.tz_c.specs.DateTimeTexts.{IsParsedData, parsed_of}
use Rattle.tz_c.specs.Texts.{IsTextAnswer}
use Rattle.tz_c.specs.declared.date_times.ParsedData.{ParsedData}

-- a pattern, in UTF-8
abbrev pub IsPatternText : List ℕ → Type 0
IsPatternText pattern = IsUtf8 pattern × IsPattern pattern

-- the codes of bytes that are no pattern
abbrev pub pattern_code : PatternError → ℕ
pattern_code (patterns.UnknownConversion _) = pattern_unknown_conversion
pattern_code patterns.TooLong = pattern_too_long

-- the bytes are no pattern, for a reason whose code this is
abbrev pub IsPatternRefusal : List ℕ → ℕ → Type 0
IsPatternRefusal pattern code =
    ((code ≡ pattern_utf8) × ¬ IsUtf8 pattern)
    ⊎ ((e : PatternError) × (code ≡ pattern_code e) × IsUtf8 pattern × IsPatternFault pattern e)

-- what the pattern prints stands in the buffer, or the buffer is too short; or there is no pattern
abbrev pub IsFormatAnswer : List ℕ → Shown → ℕ → List ℕ → List ℕ → ℕ → Type 0
IsFormatAnswer pattern s code before after len =
    (IsPatternText pattern × IsTextAnswer (text_of pattern s) code before after len)
    ⊎ IsPatternRefusal pattern code

-- the pattern of HTTP's dates, which names the time zone (RFC 9110, section 5.6.7)
abbrev pub http_date : List ℕ
http_date = codes "%a, %d %b %Y %H:%M:%S GMT"

-- the same of a date time that need not be of UTC, for which that pattern is refused
abbrev pub IsZonedFormatAnswer : List ℕ → Shown → ℕ → List ℕ → List ℕ → ℕ → Type 0
IsZonedFormatAnswer pattern s code before after len =
    ((pattern ≢ http_date) × IsFormatAnswer pattern s code before after len)
    ⊎ ((code ≡ pattern_of_utc) × (pattern ≡ http_date))

-- the codes of a text that is not read
abbrev pub read_code : ReadPatternError → ℕ
read_code readings.NotReadable = pattern_not_readable
read_code (readings.Mismatch _) = pattern_mismatch

-- the date time whose local time and offset are written
abbrev pub IsWrittenAs : List ℕ → List ℕ → ParsedData → Shown → Type 0
IsWrittenAs pattern text written s =
    IsReadAs pattern text (parsed_of written).local (parsed_of written).ut_offset s

-- the pattern prints the text of a date time, which is written; or it is not read, or prints the
-- text of none; or there is no pattern
abbrev pub IsPatternReadAnswer : List ℕ → List ℕ → ℕ → ParsedData → Type 0
IsPatternReadAnswer pattern text code written =
    (IsPatternText pattern
    × ((code ≡ 0) × IsParsedData written × ((s : Shown) × IsWrittenAs pattern text written s)))
    ⊎ (IsPatternText pattern
    × ((e : ReadPatternError) × (code ≡ read_code e) × IsReadFault pattern text e))
    ⊎ IsPatternRefusal pattern code
