-- The codes that calls return: one number for each error.
use Rattle.std.specs.Prelude.{◌≡◌, ℕ, ◌⊎◌}
use Rattle.std.specs.Str.Parse.{error_kind}
use Rattle.std.specs.declared.num.IntErrorKind.{IntErrorKind}
use Rattle.std.specs.declared.num.IntErrorKind.TheVariants.{Empty as NoDigits}
use Rattle.tz_base.specs.declared.error.TzError.{TzError}
use Rattle.tz_base.specs.declared.error.TzError.TheVariants as all
use Rattle.tz_base.specs.declared.error.DateTimeError.{DateTimeError}
use Rattle.tz_base.specs.declared.error.DateTimeError.TheVariants as fields
use Rattle.tz_base.specs.declared.error.LocalTimeTypeError.{LocalTimeTypeError}
use Rattle.tz_base.specs.declared.error.LocalTimeTypeError.TheVariants as types
use Rattle.tz_base.specs.declared.error.TransitionRuleError.{TransitionRuleError}
use Rattle.tz_base.specs.declared.error.TransitionRuleError.TheVariants as rules
use Rattle.tz_base.specs.declared.error.TimeZoneError.{TimeZoneError}
use Rattle.tz_base.specs.declared.error.TimeZoneError.TheVariants as zones
use Rattle.tz_base.specs.declared.error.ParseDataError.{ParseDataError}
use Rattle.tz_base.specs.declared.error.ParseDataError.TheVariants as bytes
use Rattle.tz_base.specs.declared.error.TzStringError.{TzStringError}
use Rattle.tz_base.specs.declared.error.TzStringError.TheVariants as strings
use Rattle.tz_base.specs.declared.error.TzFileError.{TzFileError}
use Rattle.tz_base.specs.declared.error.TzFileError.TheVariants as files

-- fields that are no date time
abbrev pub fields_code : DateTimeError → ℕ
fields_code fields.InvalidMonth = 16
fields_code fields.InvalidMonthDay = 17
fields_code fields.InvalidHour = 18
fields_code fields.InvalidMinute = 19
fields_code fields.InvalidSecond = 20
fields_code fields.InvalidNanoseconds = 21

-- parts that are no local time type
abbrev pub type_code : LocalTimeTypeError → ℕ
type_code types.InvalidTimeZoneDesignationLength = 32
type_code types.InvalidTimeZoneDesignationChar = 33
type_code types.InvalidUtcOffset = 34

-- parts that are no rule
abbrev pub rule_code : TransitionRuleError → ℕ
rule_code rules.InvalidRuleDayJulianDay = 48
rule_code rules.InvalidRuleDayMonth = 49
rule_code rules.InvalidRuleDayWeek = 50
rule_code rules.InvalidRuleDayWeekDay = 51
rule_code rules.InvalidStdUtcOffset = 52
rule_code rules.InvalidDstUtcOffset = 53
rule_code rules.InvalidDstStartEndTime = 54
rule_code rules.InconsistentRule = 55

-- parts that are no zone
abbrev pub zone_code : TimeZoneError → ℕ
zone_code zones.NoLocalTimeType = 64
zone_code zones.InvalidLocalTimeTypeIndex = 65
zone_code zones.InvalidTransition = 66
zone_code zones.InvalidLeapSecond = 67
zone_code zones.InconsistentExtraRule = 68

-- digits are missing, or their number is too great
abbrev pub number_code : IntErrorKind → ℕ
number_code NoDigits = 81
number_code _ = 93

-- a text that is no TZ string
abbrev pub string_bytes_code : ParseDataError → ℕ
string_bytes_code bytes.UnexpectedEof = 82
string_bytes_code bytes.InvalidData = 83

abbrev pub string_code : TzStringError → ℕ
string_code (strings.Utf8 _) = 80
string_code (strings.ParseInt e) = number_code (error_kind e)
string_code (strings.ParseData e) = string_bytes_code e
string_code strings.InvalidOffsetHour = 84
string_code strings.InvalidOffsetMinute = 85
string_code strings.InvalidOffsetSecond = 86
string_code strings.InvalidDayTimeHour = 87
string_code strings.InvalidDayTimeMinute = 88
string_code strings.InvalidDayTimeSecond = 89
string_code strings.MissingDstStartEndRules = 90
string_code strings.RemainingData = 91
string_code strings.Empty = 92

-- bytes that are no TZif file
abbrev pub file_bytes_code : ParseDataError → ℕ
file_bytes_code bytes.UnexpectedEof = 113
file_bytes_code bytes.InvalidData = 114

abbrev pub file_code : TzFileError → ℕ
file_code (files.Utf8 _) = 112
file_code (files.ParseData e) = file_bytes_code e
file_code files.InvalidMagicNumber = 115
file_code files.UnsupportedTzFileVersion = 116
file_code files.InvalidHeader = 117
file_code files.InvalidFooter = 118
file_code files.InvalidDstIndicator = 119
file_code files.InvalidTimeZoneDesignationCharIndex = 120
file_code files.InvalidStdWallUtLocal = 121
file_code files.RemainingDataV1 = 122

-- any error
abbrev pub code_of : TzError → ℕ
code_of (all.TzFile e) = file_code e
code_of (all.TzString e) = string_code e
code_of (all.LocalTimeType e) = type_code e
code_of (all.TransitionRule e) = rule_code e
code_of (all.TimeZone e) = zone_code e
code_of (all.DateTime e) = fields_code e
code_of all.OutOfRange = 1
code_of all.NoAvailableLocalTimeType = 2
code_of (all.Memory _) = 255

-- the codes of what is no error of the library
abbrev pub no_rule : ℕ
no_rule = 3

abbrev pub no_change : ℕ
no_change = 4

abbrev pub no_date_time : ℕ
no_date_time = 5

abbrev pub no_tz_string : ℕ
no_tz_string = 6

abbrev pub no_conflict : ℕ
no_conflict = 7

abbrev pub buffer_length : ℕ
buffer_length = 8

abbrev pub unknown_choice : ℕ
unknown_choice = 9

abbrev pub unknown_code : ℕ
unknown_code = 10

abbrev pub invalid_name : ℕ
invalid_name = 11

abbrev pub pattern_utf8 : ℕ
pattern_utf8 = 144

abbrev pub pattern_unknown_conversion : ℕ
pattern_unknown_conversion = 145

abbrev pub pattern_too_long : ℕ
pattern_too_long = 146

abbrev pub pattern_of_utc : ℕ
pattern_of_utc = 147

abbrev pub pattern_not_readable : ℕ
pattern_not_readable = 148

abbrev pub pattern_mismatch : ℕ
pattern_mismatch = 149

-- 0 says that something holds of what was written; any other code is that of an error that is due
abbrev pub IsAnswerBy : {E : Type 0} → (E → ℕ) → ℕ → Type 0 → (E → Type 0) → Type 0
IsAnswerBy {E} code_by code done due = ((code ≡ 0) × done) ⊎ ((e : E) × (code ≡ code_by e) × due e)

abbrev pub IsAnswer : ℕ → Type 0 → (TzError → Type 0) → Type 0
IsAnswer code done due = IsAnswerBy code_of code done due

-- the same of a call that has an answer of its own for nothing to write
abbrev pub IsAnswerOr : ℕ → ℕ → Type 0 → Type 0 → Type 0
IsAnswerOr code other done nothing = ((code ≡ 0) × done) ⊎ ((code ≡ other) × nothing)
