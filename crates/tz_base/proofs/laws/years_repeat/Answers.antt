-- The closed form has the period.
use Rattle.tz_base.proofs.DateOrder.{is_leap-period, first_day-period, week_day_of-period}
use Rattle.tz_base.proofs.laws.years_repeat.Goals as goal

pub returns : goal.returns
returns c = record { leap = is_leap-period; first = first_day-period; week_day = week_day_of-period }
