-- What contracts see of a date time: its fields, its local time type and its Unix time.
use Rattle.std.specs.Prelude.{◌≡◌, Bool, FitsSigned, nat_eq, ℕ, ◌<◌, ◌≤◌, ◌⊎◌, ℤ, pos, negsuc, ◌+ℤ◌, ◌-ℤ◌, ◌*ℤ◌, ◌≤ℤ◌, ◌<ℤ◌}
use Rattle.std.specs.Ordering.{on, eq_of_both, then_cmp, int_eq, int_cmp, nat_cmp}
use Rattle.std.specs.declared.cmp.Ordering.{Ordering}
use Rattle.std.specs.declared.time.Duration.{Duration}
use Rattle.std.specs.Duration.{as_nanos}
use Rattle.tz_base.specs.declared.fields.Fields.{Fields}
use Rattle.tz_base.specs.declared.error.TzError.{TzError}
use Rattle.tz_base.specs.declared.error.TzError.TheVariants as faults
use Rattle.tz_base.specs.declared.error.DateTimeError.{DateTimeError}
use Rattle.tz_base.specs.declared.error.DateTimeError.TheVariants as field_faults
use Rattle.tz_base.specs.Fields.{IsValid, IsFirstFault, IsCivil, IsReading, IsTimespec, reading, total_nanoseconds_of}
use Rattle.tz_rule.specs.LocalTimeType.{LocalTimeType}
use Rattle.tz_zone.specs.Table.{Zone}
use Rattle.tz_zone.specs.Clock.{IsClock, IsLookupFault}
use mir.Syntax.{w64}

pub record DateTime : Type 0 where
  pub fields : Fields
  pub local_time_type : LocalTimeType
  pub unix_time : ℤ

-- the date time with these parts
abbrev pub moment_of : Fields → LocalTimeType → ℤ → DateTime
moment_of f t u = record { fields = f; local_time_type = t; unix_time = u }

-- valid fields, which the type shows at the Unix time
pub record IsDateTime (d : DateTime) : Type 0 where
  pub valid : IsValid d.fields
  pub reads : reading d.fields ≡ d.unix_time +ℤ d.local_time_type.ut_offset

-- the date time that a type shows at an instant, with these nanoseconds
pub record ShowsInstant (u : ℤ) (nanoseconds : ℕ) (t : LocalTimeType) (d : DateTime) : Type 0 where
  pub civil : IsCivil (u +ℤ t.ut_offset) nanoseconds d.fields
  pub type_is : d.local_time_type ≡ t
  pub instant_is : d.unix_time ≡ u

-- the fields of a UTC date time: valid ones, whose reading is in a year of 32 bits
pub record IsUtc (f : Fields) : Type 0 where
  pub valid : IsValid f
  pub reads : IsReading (reading f)

-- the last second of all, which is second 60 and reads as the next year's first
abbrev pub IsPastTheEnd : Fields → Type 0
IsPastTheEnd f = (f.year ≡ pos 2147483647) × (f.month ≡ 12) × (f.month_day ≡ 31) × (f.hour ≡ 23)
    × (f.minute ≡ 59) × (f.second ≡ 60)

-- date times are compared by Unix time and then by nanoseconds
abbrev pub moment_eq : DateTime → DateTime → Bool
moment_eq = eq_of_both (on (λ d. d.unix_time) int_eq) (on (λ d. d.fields.nanoseconds) nat_eq)

abbrev pub moment_cmp : DateTime → DateTime → Ordering
moment_cmp = then_cmp (on (λ d. d.unix_time) int_cmp) (on (λ d. d.fields.nanoseconds) nat_cmp)

-- why fields are no UTC date time: they read past the end, or else their first fault
abbrev pub IsUtcFault : Fields → TzError → Type 0
IsUtcFault f e = ((e ≡ faults.OutOfRange) × IsPastTheEnd f)
    ⊎ ((fault : DateTimeError) × (e ≡ faults.DateTime fault) × ¬ IsPastTheEnd f
    × IsFirstFault f fault)

-- why there is no date time with a reading and this many nanoseconds
abbrev pub IsShowFault : ℤ → ℕ → TzError → Type 0
IsShowFault x nanoseconds e =
    ((e ≡ faults.DateTime field_faults.InvalidNanoseconds) × (1000000000 ≤ nanoseconds))
    ⊎ ((e ≡ faults.OutOfRange) × (nanoseconds < 1000000000) × ¬ IsReading x)

-- the total nanoseconds of UTC fields, and of a date time
abbrev pub utc_total : Fields → ℤ
utc_total f = total_nanoseconds_of (reading f) f.nanoseconds

abbrev pub total_of : DateTime → ℤ
total_of d = total_nanoseconds_of d.unix_time d.fields.nanoseconds

-- the seconds of the total, rounded down, are a reading
abbrev pub IsUtcTotal : ℤ → Type 0
IsUtcTotal total = ((pos 1000000000 *ℤ negsuc 67768100567971199) ≤ℤ total)
    × (total <ℤ (pos 1000000000 *ℤ pos 67767976233532800))

-- the seconds of the total, rounded down, fit 64 bits
abbrev pub IsNearTotal : ℤ → Type 0
IsNearTotal total = ((pos 1000000000 *ℤ negsuc 9223372036854775807) ≤ℤ total)
    × (total <ℤ (pos 1000000000 *ℤ pos 9223372036854775808))

-- the UTC date time of a total: its seconds, rounded down, are shown, and the nanoseconds are what
-- is over
abbrev pub IsUtcAt : ℤ → Fields → Type 0
IsUtcAt total f = (seconds : ℤ) × IsTimespec total seconds f.nanoseconds
    × IsCivil seconds f.nanoseconds f

-- the difference of two totals, forwards, or backwards if the first is the greater one
abbrev pub IsForwards : ℤ → ℤ → Duration → Type 0
IsForwards earlier later d = pos (as_nanos d) ≡ later -ℤ earlier

abbrev pub IsBackwards : ℤ → ℤ → Duration → Type 0
IsBackwards earlier later d = (pos (as_nanos d) ≡ earlier -ℤ later) × (later <ℤ earlier)

-- why fields with a type are no date time: their first fault, or the Unix time is no reading
abbrev pub IsLocalFault : Fields → ℤ → TzError → Type 0
IsLocalFault f offset e =
    ((fault : DateTimeError) × (e ≡ faults.DateTime fault) × IsFirstFault f fault)
    ⊎ ((e ≡ faults.OutOfRange) × IsValid f × ¬ IsReading (reading f -ℤ offset))

-- the date time that a zone's clock shows at an instant, with these nanoseconds
abbrev pub ShowsByClock : Zone → ℤ → ℕ → DateTime → Type 0
ShowsByClock z u nanoseconds d = (t : LocalTimeType) × IsClock z u t
    × ShowsInstant u nanoseconds t d

-- why a zone's clock shows no date time: the nanoseconds' fault, or the lookup's, or what it shows
-- is no reading
abbrev pub IsClockFault : Zone → ℤ → ℕ → TzError → Type 0
IsClockFault z u nanoseconds e =
    ((e ≡ faults.DateTime field_faults.InvalidNanoseconds) × (1000000000 ≤ nanoseconds))
    ⊎ ((nanoseconds < 1000000000) × IsLookupFault z u e)
    ⊎ ((e ≡ faults.OutOfRange) × (nanoseconds < 1000000000)
    × ((t : LocalTimeType) × IsClock z u t × ¬ IsReading (u +ℤ t.ut_offset)))

-- the seconds of the total, rounded down, do not fit 64 bits
abbrev pub IsFarTotal : ℤ → Type 0
IsFarTotal total = (seconds : ℤ) (nanoseconds : ℕ) → IsTimespec total seconds nanoseconds
    → ¬ FitsSigned w64 seconds

-- the date time that a type shows at a total, and that a zone's clock does
abbrev pub ShowsTotal : ℤ → LocalTimeType → DateTime → Type 0
ShowsTotal total t d = (u : ℤ) × (nanoseconds : ℕ) × IsTimespec total u nanoseconds
    × ShowsInstant u nanoseconds t d

abbrev pub ShowsTotalByClock : Zone → ℤ → DateTime → Type 0
ShowsTotalByClock z total d = (u : ℤ) × (nanoseconds : ℕ) × IsTimespec total u nanoseconds
    × ShowsByClock z u nanoseconds d

-- why there is none: the total is far, or else as for its seconds and nanoseconds
abbrev pub IsTotalFault : ℤ → ℤ → TzError → Type 0
IsTotalFault total offset e =
    (e ≡ faults.OutOfRange) × (IsFarTotal total
    ⊎ ((u : ℤ) × (nanoseconds : ℕ) × IsTimespec total u nanoseconds
    × ¬ IsReading (u +ℤ offset)))

abbrev pub IsTotalClockFault : Zone → ℤ → TzError → Type 0
IsTotalClockFault z total e =
    ((e ≡ faults.OutOfRange) × IsFarTotal total)
    ⊎ ((u : ℤ) × (nanoseconds : ℕ) × IsTimespec total u nanoseconds
    × IsClockFault z u nanoseconds e)
