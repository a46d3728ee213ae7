-- The same time of day, on the same day of each week.
use Rattle.std.specs.Prelude.{◌≡◌, ℕ, ◌*◌, ℤ, pos, ◌+ℤ◌, ◌*ℤ◌}
use Rattle.tz_base.specs.Days.{IsDateOf}
use Rattle.tz_base.specs.Fields.{IsReading, day_of}
use Rattle.tz_base.specs.declared.fields.Fields.{Fields}

-- the number of the day this many weeks after that of the fields
abbrev pub day_after : Fields → ℕ → ℤ
day_after f weeks = day_of f +ℤ pos (7 * weeks)

-- the reading with which a day begins
abbrev pub midnight : ℤ → ℤ
midnight day = pos 86400 *ℤ day

-- the day lies in a year of 32 bits
abbrev pub IsInYears : ℤ → Type 0
IsInYears day = IsReading (midnight day)

-- the fields this many weeks later: the date of that day, and the same time of day
pub record IsWeekOf (f : Fields) (weeks : ℕ) (g : Fields) : Type 0 where
  pub date : IsDateOf (day_after f weeks) g.year g.month g.month_day
  pub time : g ≡ record f { year = g.year; month = g.month; month_day = g.month_day }
