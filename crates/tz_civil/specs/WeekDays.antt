-- Week days, from Sunday = 0: the next one after a date, and the n-th of a month. (RFC 5545,
-- section 3.3.10: BYDAY with a number, which counts from the end if it is negative.)
use Rattle.std.specs.Prelude.{◌≡◌, ℕ, ◌+◌, ◌-◌, ◌/◌, ◌⊎◌, ℤ, pos, neg_ℤ, ◌≤ℤ◌, ◌<ℤ◌}
use Rattle.tz_base.specs.Days.{IsDay, week_day_of}
use Rattle.tz_civil.specs.Dates.{Date, date_of, number_of}
use Rattle.tz_civil.specs.Steps.{last_day_of}

-- the first date after another that has the week day
pub record IsNextWeekDay (d : Date) (week_day : ℕ) (e : Date) : Type 0 where
  pub later : number_of d <ℤ number_of e
  pub week_day_is : week_day_of (number_of e) ≡ pos week_day
  pub first : (day : ℤ) → number_of d <ℤ day → week_day_of day ≡ pos week_day → number_of e ≤ℤ day

-- a day of a month is the n-th of those with its week day: from the beginning, or from the end if n
-- is negative
abbrev pub IsNth : ℤ → ℕ → ℕ → Type 0
IsNth n month_day last = (n ≡ pos ((month_day - 1) / 7 + 1))
    ⊎ (n ≡ neg_ℤ (pos ((last - month_day) / 7 + 1)))

-- the n-th day of the month with the week day
pub record IsNthWeekDay (year : ℤ) (month : ℕ) (n : ℤ) (week_day month_day : ℕ) : Type 0 where
  pub day_is : IsDay year month month_day
  pub week_day_is : week_day_of (number_of (date_of year month month_day)) ≡ pos week_day
  pub nth : IsNth n month_day (last_day_of year month)
