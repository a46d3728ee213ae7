-- The week calendar of ISO 8601: a week begins on Monday, and is of the year in which its Thursday
-- lies.
use Rattle.std.specs.Prelude.{◌≡◌, ℕ, ◌+◌, ◌/◌, ◌%◌, ◌<◌, ◌≤◌, ℤ, pos, ◌+ℤ◌, ◌-ℤ◌}
use Rattle.tz_base.specs.Days.{year_length, first_day, week_day_of}

-- the day has this week date, with the week day from Monday = 1 to Sunday = 7: its week's Thursday
-- lies so many days after January 1st of the year, as one of the year's days, and is the week-th
-- Thursday of it
pub record IsWeekDate (day year : ℤ) (week week_day : ℕ) : Type 0 where
  pub week_day_is : (1 ≤ week_day) × (week_day ≤ 7)
  pub shown : week_day_of day ≡ pos (week_day % 7)
  pub days : ℕ
  pub thursday : day +ℤ pos 4 -ℤ pos week_day ≡ first_day year +ℤ pos days
  pub in_year : days < year_length year
  pub week_is : week ≡ days / 7 + 1
