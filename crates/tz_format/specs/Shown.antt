-- What patterns print of a date time.
use Rattle.std.specs.Prelude.{ℕ, ◌^◌, ◌≤◌, ◌<◌, ℤ, List, length, unsigned_abs, IsAscii}
use Rattle.tz_base.specs.declared.fields.Fields.{Fields}
use Rattle.tz_base.specs.Fields.{IsValid}
use Rattle.tz_rule.specs.LocalTimeType.{designation_text}
use Rattle.tz_format.specs.declared.moment.Moment.{Moment}
use Rattle.tz_format.specs.declared.moment.Name.{Name}
use Rattle.tz_format.specs.declared.moment.Name.TheVariants.{Fixed, OfType}

-- the fields, the offset from UTC in seconds, the name of the type, which is empty if there is
-- none, and the Unix time
pub record Shown : Type 0 where
  pub fields : Fields
  pub ut_offset : ℤ
  pub designation : List ℕ
  pub unix_time : ℤ

-- fields are valid, years and offsets have 32 bits, names at most seven ASCII bytes, and Unix times
-- at most seventeen digits
pub record IsShown (s : Shown) : Type 0 where
  pub valid : IsValid s.fields
  pub year_is : unsigned_abs s.fields.year ≤ 2 ^ 31
  pub offset_is : unsigned_abs s.ut_offset < 2 ^ 31
  pub short : length s.designation ≤ 7
  pub ascii : IsAscii s.designation
  pub unix_time_is : unsigned_abs s.unix_time < 10 ^ 17

-- the name, empty if there is none
abbrev pub name_text : Name → List ℕ
name_text (Fixed text) = text.now
name_text (OfType local_time_type) = designation_text local_time_type.now

-- what the parts of a moment show
abbrev pub shown_of : Moment → Shown
shown_of m = record {
  fields = m.fields;
  ut_offset = m.ut_offset;
  designation = name_text m.name;
  unix_time = m.unix_time;
}
