-- Days with a week day are weeks apart.
use Rattle.tz_civil.proofs.UniqueDates.{next_week_day_unique, nth_week_day_unique}
use Rattle.tz_civil.proofs.laws.week_days_are_unique.Goals as goal

pub returns : goal.returns
returns c = record { nth = nth_week_day_unique; next = next_week_day_unique }
