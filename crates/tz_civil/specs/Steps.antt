-- Steps from date to date, by days and by months. (RFC 5545, section 3.3.10, leaves out a month
-- that does not have the day. Here the last day of the month stands for it.)
use Rattle.std.specs.Prelude.{◌≡◌, ℕ, ℤ, pos, ◌+ℤ◌, ◌*ℤ◌, min}
use Rattle.tz_base.specs.Days.{is_leap, month_length}
use Rattle.tz_base.specs.Fields.{IsMonth}
use Rattle.tz_civil.specs.Dates.{Date, number_of}

-- the date this many days later
abbrev pub IsDaysLater : Date → ℤ → Date → Type 0
IsDaysLater d days e = number_of e ≡ number_of d +ℤ days

-- months counted through all years: that of year and month
abbrev pub month_number : ℤ → ℕ → ℤ
month_number year month = pos 12 *ℤ year +ℤ pos month

-- the year and the month this many months later
pub record IsMonthLater (d : Date) (months year : ℤ) (month : ℕ) : Type 0 where
  pub month_is : IsMonth month
  pub later : month_number year month ≡ month_number d.year d.month +ℤ months

-- the last day of a month
abbrev pub last_day_of : ℤ → ℕ → ℕ
last_day_of year month = month_length (is_leap year) month

-- the date this many months later: the same day of the month, or its last one if it has fewer
pub record IsMonthsLater (d : Date) (months : ℤ) (e : Date) : Type 0 where
  pub month_is : IsMonthLater d months e.year e.month
  pub day_is : e.month_day ≡ min d.month_day (last_day_of e.year e.month)
