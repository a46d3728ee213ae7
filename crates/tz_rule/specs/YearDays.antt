-- The closed forms that rule days are computed by.
use Rattle.std.specs.Prelude.{ℕ, ◌+◌, ◌-◌, ◌*◌, ◌%◌, ◌&&◌, Bool, nat_lt, if◌then◌else◌}
use Rattle.tz_base.specs.Days.{month_length, months_length}
use Rattle.tz_rule.specs.declared.timezone.rule_day.RuleDay.{RuleDay}
use Rattle.tz_rule.specs.declared.timezone.rule_day.RuleDay.TheVariants.{Julian1WithoutLeap, Julian0WithLeap, MonthWeekDay}

-- how many days after January 1st the n-th day is that is not February 29th
unfoldable pub julian_year_day : Bool → ℕ → ℕ
julian_year_day leap n = if leap && nat_lt 59 n then n else n - 1

-- how many days after its first day a month of this many days has a week day for the w-th or the
-- last time, by how many for the first time
abbrev pub nth_week_day : ℕ → ℕ → ℕ → ℕ
nth_week_day first days week =
    let day = first + 7 * (week - 1) in
    if nat_lt day days then day else day - 7

-- the same, by the week day of the month's first day
unfoldable pub week_day_in_month : ℕ → ℕ → ℕ → ℕ → ℕ
week_day_in_month first days week week_day = nth_week_day ((week_day + 7 - first) % 7) days week

-- how many days after January 1st of its year a rule day is, if the year is leap or not and its
-- January 1st has the week day
unfoldable pub year_day_of : RuleDay → Bool → ℕ → ℕ
year_day_of (Julian1WithoutLeap n) leap week_day = julian_year_day leap n
year_day_of (Julian0WithLeap n) leap week_day = n
year_day_of (MonthWeekDay d) leap week_day =
    let before = months_length leap (d.month - 1) in
    before + week_day_in_month ((week_day + before) % 7) (month_length leap d.month) d.week
    d.week_day

-- how many days a rule day is later than the first day that it may be. A day that has no week day
-- is at that one. Of a week day the places from 7 on are those of week days of January 1st that
-- follow one another: it is a day earlier if the year begins one week day later.
unfoldable pub days_later : ℕ → ℕ
days_later place = if nat_lt place 7 then 0 else (20 - place) % 7
