-- The texts of codes, which are those of their errors.
use Rattle.std.specs.Prelude.{◌≡◌, ℕ, List, [], ◌∷◌, ◌++◌, ◌==◌, Option, Some, None, codes, if◌then◌else◌}
use Rattle.std.specs.Str.Parse.{error_kind}
use Rattle.std.specs.declared.num.IntErrorKind.{IntErrorKind}
use Rattle.std.specs.declared.num.IntErrorKind.TheVariants.{Empty as NoDigits}
use Rattle.tz_base.specs.declared.error.TzError.{TzError}
use Rattle.tz_base.specs.declared.error.TzError.TheVariants as all
use Rattle.tz_base.specs.declared.error.DateTimeError.{DateTimeError}
use Rattle.tz_base.specs.declared.error.DateTimeError.TheVariants as fields
use Rattle.tz_base.specs.declared.error.LocalTimeTypeError.{LocalTimeTypeError}
use Rattle.tz_base.specs.declared.error.LocalTimeTypeError.TheVariants as types
use Rattle.tz_base.specs.declared.error.TransitionRuleError.{TransitionRuleError}
use Rattle.tz_base.specs.declared.error.TransitionRuleError.TheVariants as rules
use Rattle.tz_base.specs.declared.error.TimeZoneError.{TimeZoneError}
use Rattle.tz_base.specs.declared.error.TimeZoneError.TheVariants as zones
use Rattle.tz_base.specs.declared.error.ParseDataError.{ParseDataError}
use Rattle.tz_base.specs.declared.error.ParseDataError.TheVariants as bytes
use Rattle.tz_base.specs.declared.error.TzStringError.{TzStringError}
use Rattle.tz_base.specs.declared.error.TzStringError.TheVariants as strings
use Rattle.tz_base.specs.declared.error.TzFileError.{TzFileError}
use Rattle.tz_base.specs.declared.error.TzFileError.TheVariants as files
use Rattle.tz.specs.declared.parse.DateTimePart.{DateTimePart}
use Rattle.tz.specs.PartTexts.{part_text}
use Rattle.tz_c.specs.Codes.{unknown_code}
use Rattle.tz_c.specs.Texts.{IsTextAnswer}

-- what the errors of the parts print
abbrev pub fields_text : DateTimeError → List ℕ
fields_text fields.InvalidMonth = codes "invalid month"
fields_text fields.InvalidMonthDay = codes "invalid month day"
fields_text fields.InvalidHour = codes "invalid hour"
fields_text fields.InvalidMinute = codes "invalid minute"
fields_text fields.InvalidSecond = codes "invalid second"
fields_text fields.InvalidNanoseconds = codes "invalid nanoseconds"

abbrev pub type_text : LocalTimeTypeError → List ℕ
type_text types.InvalidTimeZoneDesignationLength =
    codes "time zone designation must have between 3 and 7 characters"
type_text types.InvalidTimeZoneDesignationChar = codes "invalid characters in time zone designation"
type_text types.InvalidUtcOffset = codes "invalid UTC offset"

abbrev pub rule_text : TransitionRuleError → List ℕ
rule_text rules.InvalidRuleDayJulianDay = codes "invalid rule day julian day"
rule_text rules.InvalidRuleDayMonth = codes "invalid rule day month"
rule_text rules.InvalidRuleDayWeek = codes "invalid rule day week"
rule_text rules.InvalidRuleDayWeekDay = codes "invalid rule day week day"
rule_text rules.InvalidStdUtcOffset = codes "invalid standard time UTC offset"
rule_text rules.InvalidDstUtcOffset = codes "invalid Daylight Saving Time UTC offset"
rule_text rules.InvalidDstStartEndTime = codes "invalid DST start or end time"
rule_text rules.InconsistentRule =
    codes "DST transition rules are not consistent from one year to another"

abbrev pub zone_text : TimeZoneError → List ℕ
zone_text zones.NoLocalTimeType = codes "list of local time types must not be empty"
zone_text zones.InvalidLocalTimeTypeIndex = codes "invalid local time type index"
zone_text zones.InvalidTransition = codes "invalid transition"
zone_text zones.InvalidLeapSecond = codes "invalid leap second"
zone_text zones.InconsistentExtraRule =
    codes "extra transition rule is inconsistent with the last transition"

-- digits are missing, or their number is too great
abbrev pub number_text : IntErrorKind → List ℕ
number_text NoDigits = codes "cannot parse integer from empty string"
number_text _ = codes "number too large to fit in target type"

abbrev pub bytes_text : ParseDataError → List ℕ
bytes_text bytes.UnexpectedEof = codes "unexpected end of data"
bytes_text bytes.InvalidData = codes "invalid data"

abbrev pub string_text : TzStringError → List ℕ
string_text (strings.Utf8 _) = codes "invalid UTF-8"
string_text (strings.ParseInt e) = number_text (error_kind e)
string_text (strings.ParseData e) = bytes_text e
string_text strings.InvalidOffsetHour = codes "invalid offset hour"
string_text strings.InvalidOffsetMinute = codes "invalid offset minute"
string_text strings.InvalidOffsetSecond = codes "invalid offset second"
string_text strings.InvalidDayTimeHour = codes "invalid day time hour"
string_text strings.InvalidDayTimeMinute = codes "invalid day time minute"
string_text strings.InvalidDayTimeSecond = codes "invalid day time second"
string_text strings.MissingDstStartEndRules = codes "missing DST start and end rules"
string_text strings.RemainingData = codes "remaining data after parsing TZ string"
string_text strings.Empty = codes "empty TZ string"

abbrev pub file_text : TzFileError → List ℕ
file_text (files.Utf8 _) = codes "invalid UTF-8"
file_text (files.ParseData e) = bytes_text e
file_text files.InvalidMagicNumber = codes "invalid magic number"
file_text files.UnsupportedTzFileVersion = codes "unsupported TZ file version"
file_text files.InvalidHeader = codes "invalid header"
file_text files.InvalidFooter = codes "invalid footer"
file_text files.InvalidDstIndicator = codes "invalid DST indicator"
file_text files.InvalidTimeZoneDesignationCharIndex =
    codes "invalid time zone designation char index"
file_text files.InvalidStdWallUtLocal =
    codes "invalid couple of standard/wall and UT/local indicators"
file_text files.RemainingDataV1 = codes "remaining data after the end of a TZif v1 data block"

-- what an error prints; of bytes that are no UTF-8 without their position, which a code does not
-- have
abbrev pub error_text : TzError → List ℕ
error_text (all.TzFile e) = codes "invalid TZ file: " ++ file_text e
error_text (all.TzString e) = codes "invalid TZ string: " ++ string_text e
error_text (all.LocalTimeType e) = codes "invalid local time type: " ++ type_text e
error_text (all.TransitionRule e) = codes "invalid transition rule: " ++ rule_text e
error_text (all.TimeZone e) = codes "invalid time zone: " ++ zone_text e
error_text (all.DateTime e) = codes "invalid date time: " ++ fields_text e
error_text all.OutOfRange = codes "out of range operation"
error_text all.NoAvailableLocalTimeType =
    codes "no local time type is available for the specified timestamp"
error_text (all.Memory _) = codes "no memory"

-- what an error of a date time's text prints of the part that is missing
abbrev pub expected_text : DateTimePart → List ℕ
expected_text part = codes "expected " ++ part_text part

-- the text of the first entry with a code
abbrev pub text_in : List (ℕ × List ℕ) → ℕ → Option (List ℕ)
text_in [] code = None
text_in (entry ∷ entries) code = if code == entry.0 then Some entry.1 else text_in entries code

-- the codes that there are, and their texts
abbrev pub texts : List (ℕ × List ℕ)
texts =
    (0, codes "no error") ∷
    (1, codes "out of range operation") ∷
    (2, codes "no local time type is available for the specified timestamp") ∷
    (3, codes "no rule is given") ∷
    (4, codes "the clock does not change") ∷
    (5, codes "the local time means no date time") ∷
    (6, codes "no TZ string denotes the rule") ∷
    (7, codes "the parts show no conflict") ∷
    (8, codes "a buffer has the wrong length") ∷
    (9, codes "unknown choice") ∷
    (10, codes "unknown code") ∷
    (11, codes "not a time zone name") ∷
    (16, codes "invalid date time: invalid month") ∷
    (17, codes "invalid date time: invalid month day") ∷
    (18, codes "invalid date time: invalid hour") ∷
    (19, codes "invalid date time: invalid minute") ∷
    (20, codes "invalid date time: invalid second") ∷
    (21, codes "invalid date time: invalid nanoseconds") ∷ (
      32,
      codes "invalid local time type: time zone designation must have between 3 and 7 characters",
    ) ∷
    (33, codes "invalid local time type: invalid characters in time zone designation") ∷
    (34, codes "invalid local time type: invalid UTC offset") ∷
    (48, codes "invalid transition rule: invalid rule day julian day") ∷
    (49, codes "invalid transition rule: invalid rule day month") ∷
    (50, codes "invalid transition rule: invalid rule day week") ∷
    (51, codes "invalid transition rule: invalid rule day week day") ∷
    (52, codes "invalid transition rule: invalid standard time UTC offset") ∷
    (53, codes "invalid transition rule: invalid Daylight Saving Time UTC offset") ∷
    (54, codes "invalid transition rule: invalid DST start or end time") ∷ (
      55,
      codes "invalid transition rule: DST transition rules are not consistent from one year to another",
    ) ∷
    (64, codes "invalid time zone: list of local time types must not be empty") ∷
    (65, codes "invalid time zone: invalid local time type index") ∷
    (66, codes "invalid time zone: invalid transition") ∷
    (67, codes "invalid time zone: invalid leap second") ∷ (
      68,
      codes "invalid time zone: extra transition rule is inconsistent with the last transition",
    ) ∷
    (80, codes "invalid TZ string: invalid UTF-8") ∷
    (81, codes "invalid TZ string: cannot parse integer from empty string") ∷
    (82, codes "invalid TZ string: unexpected end of data") ∷
    (83, codes "invalid TZ string: invalid data") ∷
    (84, codes "invalid TZ string: invalid offset hour") ∷
    (85, codes "invalid TZ string: invalid offset minute") ∷
    (86, codes "invalid TZ string: invalid offset second") ∷
    (87, codes "invalid TZ string: invalid day time hour") ∷
    (88, codes "invalid TZ string: invalid day time minute") ∷
    (89, codes "invalid TZ string: invalid day time second") ∷
    (90, codes "invalid TZ string: missing DST start and end rules") ∷
    (91, codes "invalid TZ string: remaining data after parsing TZ string") ∷
    (92, codes "invalid TZ string: empty TZ string") ∷
    (93, codes "invalid TZ string: number too large to fit in target type") ∷
    (112, codes "invalid TZ file: invalid UTF-8") ∷
    (113, codes "invalid TZ file: unexpected end of data") ∷
    (114, codes "invalid TZ file: invalid data") ∷
    (115, codes "invalid TZ file: invalid magic number") ∷
    (116, codes "invalid TZ file: unsupported TZ file version") ∷
    (117, codes "invalid TZ file: invalid header") ∷
    (118, codes "invalid TZ file: invalid footer") ∷
    (119, codes "invalid TZ file: invalid DST indicator") ∷
    (120, codes "invalid TZ file: invalid time zone designation char index") ∷
    (121, codes "invalid TZ file: invalid couple of standard/wall and UT/local indicators") ∷
    (122, codes "invalid TZ file: remaining data after the end of a TZif v1 data block") ∷
    (128, codes "expected a year of four digits or more") ∷
    (129, codes "expected `-`") ∷
    (130, codes "expected a month from 01 to 12") ∷
    (131, codes "expected a day of the month") ∷
    (132, codes "expected `T` or a space") ∷
    (133, codes "expected an hour from 00 to 23") ∷
    (134, codes "expected `:`") ∷
    (135, codes "expected a minute from 00 to 59") ∷
    (136, codes "expected a second from 00 to 60") ∷
    (137, codes "expected a fraction of one to nine digits") ∷
    (138, codes "expected `Z`, the sign of an offset or the end") ∷
    (139, codes "expected the hours of an offset in two digits") ∷
    (140, codes "expected the minutes of an offset from 00 to 59") ∷
    (141, codes "expected the seconds of an offset from 00 to 59") ∷
    (142, codes "expected the end") ∷
    (144, codes "invalid pattern: invalid UTF-8") ∷
    (145, codes "invalid pattern: no conversion begins at a `%`") ∷
    (146, codes "invalid pattern: it prints more than 128 bytes") ∷
    (147, codes "the pattern prints date times of UTC alone") ∷
    (148, codes "the pattern has a conversion that is not read") ∷
    (149, codes "the pattern does not print the text") ∷
    (255, codes "no memory") ∷
    []

abbrev pub text_of_code : ℕ → Option (List ℕ)
text_of_code = text_in texts

-- the text is given, or the number is no code
abbrev pub IsCodeTextAnswer : Option (List ℕ) → ℕ → List ℕ → List ℕ → ℕ → Type 0
IsCodeTextAnswer None code before after len = code ≡ unknown_code
IsCodeTextAnswer (Some given) code before after len = IsTextAnswer given code before after len
