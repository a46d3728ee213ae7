-- The grammar of a query line: a letter and numbers, each after one space.
use Rattle.std.specs.Prelude.{◌≡◌, ℕ, ◌^◌, ◌<◌, ℤ, pos, List, [], ◌∷◌, FitsSigned}
use Rattle.std.specs.Int.{w32, w64}
use Rattle.tz_base.specs.declared.fields.Fields.{Fields}
use Rattle.tz_query.specs.declared.query.read_query.Query.{Query}
use Rattle.tz_query.specs.declared.query.read_query.Query.TheVariants.{Time, Search, Meeting}
use Rattle.tz_query.specs.Numbers.{AreNumbers}

-- the letters with which lines begin
abbrev pub time_letter : ℕ
time_letter = 84

abbrev pub search_letter : ℕ
search_letter = 70

abbrev pub meeting_letter : ℕ
meeting_letter = 87

-- a letter, and numbers in their order
pub record IsLineOf (letter : ℕ) (numbers : List ℤ) (line : List ℕ) : Type 0 where
  pub parts : List ℕ
  pub whole : line ≡ letter ∷ parts
  pub are_numbers : AreNumbers parts numbers

-- `T u n` asks for the date time of an instant of 64 bits, with nanoseconds of 32 bits
pub record IsTimeLine (line : List ℕ) (u : ℤ) (n : ℕ) : Type 0 where
  pub line_is : IsLineOf time_letter (u ∷ pos n ∷ []) line
  pub seconds_fit : FitsSigned w64 u
  pub nanoseconds_fit : n < 2 ^ 32

-- the fields in their order
abbrev pub numbers_of : Fields → List ℤ
numbers_of f = f.year ∷ pos f.month ∷ pos f.month_day ∷ pos f.hour ∷ pos f.minute ∷ pos f.second
    ∷ pos f.nanoseconds ∷ []

-- a year of 32 bits, nanoseconds of 32 bits, and five numbers of 8 bits between them
pub record AreFieldsOfBits (f : Fields) : Type 0 where
  pub year_fits : FitsSigned w32 f.year
  pub month_fits : f.month < 2 ^ 8
  pub month_day_fits : f.month_day < 2 ^ 8
  pub hour_fits : f.hour < 2 ^ 8
  pub minute_fits : f.minute < 2 ^ 8
  pub second_fits : f.second < 2 ^ 8
  pub nanoseconds_fit : f.nanoseconds < 2 ^ 32

-- `F y mo d h mi s n` asks for the date times of fields
pub record IsSearchLine (line : List ℕ) (f : Fields) : Type 0 where
  pub line_is : IsLineOf search_letter (numbers_of f) line
  pub fields_fit : AreFieldsOfBits f

-- `W c y mo d h mi s n` asks for the date times of fields in a number of weeks of 8 bits, in the
-- first week of these fields
pub record IsMeetingLine (line : List ℕ) (count : ℕ) (f : Fields) : Type 0 where
  pub line_is : IsLineOf meeting_letter (pos count ∷ numbers_of f) line
  pub count_fits : count < 2 ^ 8
  pub fields_fit : AreFieldsOfBits f

-- what a line asks for
abbrev pub IsQueryLine : List ℕ → Query → Type 0
IsQueryLine line (Time u n) = IsTimeLine line u n
IsQueryLine line (Search f) = IsSearchLine line f
IsQueryLine line (Meeting count f) = IsMeetingLine line count f
