-- What a call over a whole column of date times answers, and the days that it keeps.
use Rattle.std.specs.Prelude.{◌≡◌, ℕ, ◌≤◌, ℤ, pos, negsuc, ◌*ℤ◌, ◌≤ℤ◌, List, Some, slice_get}
use Rattle.tz_base.specs.declared.error.TzError.{TzError}
use Rattle.tz_base.specs.Days.{day_number, is_leap, month_length}
use Rattle.tz_base.specs.Fields.{IsMonth, IsMonthDay}
use Rattle.tz_zone.specs.Table.{Zone}
use Rattle.tz.specs.DateTimes.{DateTime, IsClockFault, ShowsByClock}
use Rattle.tz.specs.declared.columns.date_times.Day.{Day}

-- a day, by its date, and its first reading
pub record IsDay (d : Day) : Type 0 where
  pub month_is : IsMonth d.month
  pub month_day_is : IsMonthDay d.month_day
  pub in_month : d.month_day ≤ month_length (is_leap d.year) d.month
  pub starts : d.start ≡ pos 86400 *ℤ day_number d.year d.month d.month_day
  pub bound : (negsuc 67768100568057598 ≤ℤ d.start) × (d.start ≤ℤ pos 67767976233532799)

-- a slot holds the date time that the clock shows at an instant
abbrev pub HoldsShown : {V : Type 0} → (DateTime → V) → Zone → ℤ → ℕ → V → Type 0
HoldsShown holding z u n slot = (d : DateTime) × ShowsByClock z u n d × (slot ≡ holding d)

-- what the clock shows at the instant of an index, or why it shows no date time
abbrev pub IsDateTimeAt : {V : Type 0} → (DateTime → V) → Zone → List ℤ → List ℕ → ℕ → V → Type 0
IsDateTimeAt holding z unix_times nanoseconds i slot =
    (u : ℤ) (n : ℕ) → slice_get unix_times i ≡ Some u → slice_get nanoseconds i ≡ Some n
    → HoldsShown holding z u n slot

abbrev pub IsDateTimeFaultAt : Zone → List ℤ → List ℕ → ℕ → TzError → Type 0
IsDateTimeFaultAt z unix_times nanoseconds i e =
    (u : ℤ) (n : ℕ) → slice_get unix_times i ≡ Some u → slice_get nanoseconds i ≡ Some n
    → IsClockFault z u n e
