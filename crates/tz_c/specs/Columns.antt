-- What calls over whole columns answer: at each index what the call for one value does.
use Rattle.std.specs.Prelude.{FitsSigned, ◌≡◌, ◌≢◌, ◌⊎◌, ℕ, ◌≤◌, ℤ, List, length, Option, Some, None, slice_get}
use Rattle.std.specs.Int.{w32}
use Rattle.tz_base.specs.declared.error.TzError.{TzError}
use Rattle.tz_base.specs.declared.fields.Fields.{Fields}
use Rattle.tz_zone.specs.Clock.{IsLookupFault}
use Rattle.tz_zone.specs.Table.{Zone}
use Rattle.tz.specs.DateTimes.{DateTime, IsClockFault, ShowsByClock}
use Rattle.tz.specs.Choices.{IsMeaning, IsMeaningFault}
use Rattle.tz.specs.Columns.{IsOffset}
use Rattle.tz.specs.InstantColumns.{HasNoInstantOfReading, IsInstantOfReading}
use Rattle.tz.specs.declared.datetime.disambiguation.Disambiguation.{Disambiguation}
use Rattle.tz_c.specs.Codes.{IsAnswer, IsAnswerOr, buffer_length, code_of, no_date_time, unknown_choice}
use Rattle.tz_c.specs.DateTimes.{CanBeSearched, IsDateTimeDataOf}
use Rattle.tz_c.specs.declared.date_time_data.DateTimeData.{DateTimeData}

-- the columns of values and of codes have so many indexes
abbrev pub AreOfLength : {V : Type 0} → ℕ → List V → List ℕ → Type 0
AreOfLength count values codes = (length values ≡ count) × (length codes ≡ count)

-- a code and a value are written at each index, and are the answer there; where the code is that of
-- an error the value is the one before
pub record AreAnswers {V : Type 0} (IsAnswerAt : ℕ → ℕ → V → Type 0) (before after : List V)
    (codes : List ℕ) : Type 0 where
  pub lengths_are : (length after ≡ length before) × (length codes ≡ length before)
  pub answered : (i : ℕ) (code : ℕ) (value : V) → slice_get codes i ≡ Some code
      → slice_get after i ≡ Some value → IsAnswerAt i code value
  pub kept : (i : ℕ) (code : ℕ) → slice_get codes i ≡ Some code → code ≢ 0
      → slice_get after i ≡ slice_get before i

-- the codes from an index on are those of no error
abbrev pub AreOkFrom : ℕ → List ℕ → Type 0
AreOkFrom first codes = (i : ℕ) (code : ℕ) → first ≤ i → slice_get codes i ≡ Some code → code ≡ 0

-- the answer at an index: the clock's offset at the instant of the index
abbrev pub IsOffsetAt : Zone → List ℤ → ℕ → ℕ → ℤ → Type 0
IsOffsetAt z unix_times i code offset = (u : ℤ) → slice_get unix_times i ≡ Some u
    → IsAnswer code (IsOffset z u offset) (IsLookupFault z u)

-- what the clock shows at the instant of the index
abbrev pub IsDateTimeAt : Zone → List ℤ → List ℕ → ℕ → ℕ → DateTimeData → Type 0
IsDateTimeAt z unix_times nanoseconds i code written =
    (u : ℤ) (n : ℕ) → slice_get unix_times i ≡ Some u → slice_get nanoseconds i ≡ Some n
    → IsAnswer code (IsDateTimeDataOf (ShowsByClock z u n) written) (IsClockFault z u n)

-- the code of an element without an instant: that of none, or that of its error
abbrev pub IsCodeOfNone : Option TzError → ℕ → Type 0
IsCodeOfNone None code = code ≡ no_date_time
IsCodeOfNone (Some e) code = code ≡ code_of e

-- the instant of the date time that fields mean by a choice, whose year fits 32 bits as that of one
-- that is written does, or none is meant, or there is a fault
abbrev pub IsInstantAnswer : Zone → Disambiguation → Fields → ℕ → ℤ → Type 0
IsInstantAnswer z choice f code u =
    ((code ≡ 0) × CanBeSearched z f
    × ((d : DateTime) × IsMeaning z choice f (Some d) × FitsSigned w32 d.fields.year
    × (u ≡ d.unix_time)))
    ⊎ ((code ≡ no_date_time) × CanBeSearched z f × IsMeaning z choice f None)
    ⊎ ((e : TzError) × (code ≡ code_of e) × IsMeaningFault z choice f e)

-- the instant that the fields of the index mean
abbrev pub IsInstantAt : Zone → Disambiguation → List Fields → ℕ → ℕ → ℤ → Type 0
IsInstantAt z choice fields i code u = (f : Fields) → slice_get fields i ≡ Some f
    → IsInstantAnswer z choice f code u

-- the same of a whole column by the number of a choice
abbrev pub AreInstantsBy : Zone → Option Disambiguation → List Fields → ℕ → List ℤ → List ℤ → List ℕ
    → List ℕ → Type 0
AreInstantsBy z None fields code before after codes_before codes = code ≡ unknown_choice
AreInstantsBy z (Some choice) fields code before after codes_before codes =
    IsAnswerOr code buffer_length
    (AreOfLength (length fields) before codes_before
    × AreAnswers (IsInstantAt z choice fields) before after codes)
    (¬ AreOfLength (length fields) before codes_before)

-- the instant that a reading means by a choice, or it means none, or there is a fault
abbrev pub IsReadingAnswer : Zone → Disambiguation → ℤ → ℕ → ℤ → Type 0
IsReadingAnswer z choice r code u =
    ((code ≡ 0) × IsInstantOfReading z choice r u)
    ⊎ ((code ≡ no_date_time) × HasNoInstantOfReading z choice r None)
    ⊎ ((e : TzError) × (code ≡ code_of e) × HasNoInstantOfReading z choice r (Some e))

-- the instant that the reading of the index means
abbrev pub IsReadingAt : Zone → Disambiguation → List ℤ → ℕ → ℕ → ℤ → Type 0
IsReadingAt z choice readings i code u = (r : ℤ) → slice_get readings i ≡ Some r
    → IsReadingAnswer z choice r code u

-- the same of a whole column by the number of a choice
abbrev pub AreInstantsOfReadingsBy : Zone → Option Disambiguation → List ℤ → ℕ → List ℤ → List ℤ
    → List ℕ → List ℕ → Type 0
AreInstantsOfReadingsBy z None readings code before after codes_before codes =
    code ≡ unknown_choice
AreInstantsOfReadingsBy z (Some choice) readings code before after codes_before codes =
    IsAnswerOr code buffer_length
    (AreOfLength (length readings) before codes_before
    × AreAnswers (IsReadingAt z choice readings) before after codes)
    (¬ AreOfLength (length readings) before codes_before)
