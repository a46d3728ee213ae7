-- The closed form gains the year's length.
use Rattle.tz_base.proofs.DaysOfYears.{first_day-next}
use Rattle.tz_base.proofs.laws.years_follow.Goals as goal

pub returns : goal.returns
returns c = first_day-next
