-- How a date time is printed with the name of its type, and what a line has of it. Digits, dates,
-- times and offsets are those of `tz_base`.
use Rattle.std.specs.Prelude.{List, [], ◌∷◌, ◌++◌, ℕ, unwrap_or}
use Rattle.tz_rule.specs.LocalTimeType.{LocalTimeType}
use Rattle.tz.specs.DateTimes.{DateTime}
pub use Rattle.tz_base.specs.PrintedText.{last_digits, seconds_text}
unfoldable pub use Rattle.tz_base.specs.PrintedText.{two_digits, nine_digits, two_digits_or_more}
unfoldable pub use Rattle.tz_base.specs.PrintedText.{date_text, time_text, duration_text}
unfoldable pub use Rattle.tz_base.specs.PrintedText.{offset_text, middle_text, printed_text}

-- the name of a type, or `-`
abbrev pub type_name_text : LocalTimeType → List ℕ
type_name_text t = unwrap_or t.designation (45 ∷ [])

-- a date time, a space and the name of its type
unfoldable pub moment_text : DateTime → List ℕ
moment_text d = printed_text d.fields d.local_time_type.ut_offset ++ 32
    ∷ type_name_text d.local_time_type

-- what a line has after the nanoseconds: the offset, a space, the name of the type, and LF
unfoldable pub suffix_text : LocalTimeType → List ℕ
suffix_text t = offset_text t.ut_offset ++ (32 ∷ type_name_text t ++ 10 ∷ [])
