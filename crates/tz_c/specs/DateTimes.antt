-- What calls answer of date times and searches.
use Rattle.std.specs.Prelude.{◌≡◌, ◌⊎◌, ℕ, zero, suc, ◌<◌, ◌≤◌, ℤ, ◌-ℤ◌, Option, Some, None}
use Rattle.tz_base.specs.declared.fields.Fields.{Fields}
use Rattle.tz_base.specs.declared.error.TzError.{TzError}
use Rattle.tz_base.specs.declared.error.TzError.TheVariants as faults
use Rattle.tz_base.specs.declared.error.DateTimeError.TheVariants as field_faults
use Rattle.tz_base.specs.Fields.{reading, IsValid}
use Rattle.tz_rule.specs.LocalTimeType.{LocalTimeType}
use Rattle.tz_zone.specs.Clock.{IsClock}
use Rattle.tz_zone.specs.Table.{Zone}
use Rattle.tz.specs.DateTimes.{DateTime, IsDateTime, IsUtcTotal}
use Rattle.tz.specs.Found.{EachCanBeMade}
use Rattle.tz.specs.Choices.{IsMeaning, IsMeaningFault}
use Rattle.tz.specs.declared.datetime.disambiguation.Disambiguation.{Disambiguation}
use Rattle.tz.specs.declared.datetime.disambiguation.Disambiguation.TheVariants.{Compatible, Earlier, Later, Reject}
use Rattle.tz_c.specs.Codes.{code_of, no_date_time, unknown_choice}
use Rattle.tz_c.specs.DateTimeData.{IsUtcData, date_time_of}
use Rattle.tz_c.specs.declared.date_time_data.UtcData.{UtcData}
use Rattle.tz_c.specs.declared.date_time_data.DateTimeData.{DateTimeData}

-- the data of a date time of UTC of which something holds
abbrev pub IsUtcDataOf : (Fields → Type 0) → UtcData → Type 0
IsUtcDataOf holds written = IsUtcData written × holds written.fields

-- why a duration leads to no date time: its nanoseconds are a second or more, or the total is that
-- of none
abbrev pub IsMoveFault : ℤ → ℕ → TzError → Type 0
IsMoveFault total nanoseconds e =
    ((e ≡ faults.DateTime field_faults.InvalidNanoseconds) × (1000000000 ≤ nanoseconds))
    ⊎ ((e ≡ faults.OutOfRange) × (nanoseconds < 1000000000) × ¬ IsUtcTotal total)

-- the data of a date time of which something holds
abbrev pub IsDateTimeDataOf : (DateTime → Type 0) → DateTimeData → Type 0
IsDateTimeDataOf holds written = IsDateTime (date_time_of written) × holds (date_time_of written)

-- the date time with these fields, which the type shows
abbrev pub shown_by : Fields → LocalTimeType → DateTime
shown_by fields t = record {
  fields = fields;
  local_time_type = t;
  unix_time = reading fields -ℤ t.ut_offset;
}

-- the choice with a number
abbrev pub choice_of : ℕ → Option Disambiguation
choice_of zero = Some Compatible
choice_of (suc zero) = Some Earlier
choice_of (suc (suc zero)) = Some Later
choice_of (suc (suc (suc zero))) = Some Reject
choice_of (suc (suc (suc (suc _)))) = None

-- a search for the fields is not refused: they are valid, and each entry that they have can be made
abbrev pub CanBeSearched : Zone → Fields → Type 0
CanBeSearched z f = IsValid f × EachCanBeMade (IsClock z) f

-- what fields mean by a choice: a date time is written, or none is meant, or there is a fault
abbrev pub IsMeaningAnswer : Zone → Disambiguation → Fields → ℕ → DateTimeData → Type 0
IsMeaningAnswer z choice f code written =
    ((code ≡ 0) × CanBeSearched z f × IsDateTimeDataOf (λ d. IsMeaning z choice f (Some d)) written)
    ⊎ ((code ≡ no_date_time) × CanBeSearched z f × IsMeaning z choice f None)
    ⊎ ((e : TzError) × (code ≡ code_of e) × IsMeaningFault z choice f e)

-- the same by the number of a choice
abbrev pub IsChoiceAnswer : Zone → Option Disambiguation → Fields → ℕ → DateTimeData → Type 0
IsChoiceAnswer z None f code written = code ≡ unknown_choice
IsChoiceAnswer z (Some choice) f code written = IsMeaningAnswer z choice f code written
