-- The year and the day that are found make up the day.
use Rattle.std.proofs.Common.{refl}
use Rattle.tz_base.proofs.MarchYears.{march_year_is, last_day_is_leap, year_of_century_bound}
use Rattle.tz_base.proofs.calendar.march_year.Goals as goal

pub returns-clause-value : goal.returns-clause-value
returns-clause-value c = march_year_is c.args.day _ _ _ refl refl refl (year_of_century_bound c.args.day)

pub returns-clause-leap : goal.returns-clause-leap
returns-clause-leap c = last_day_is_leap c.args.day _ _ _ refl refl refl (year_of_century_bound c.args.day)
