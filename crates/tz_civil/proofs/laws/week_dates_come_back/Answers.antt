-- A Thursday is in one year, and has one place in it.
use Rattle.tz_civil.proofs.UniqueDates.{week_date_unique}
use Rattle.tz_civil.proofs.YearsOfWeeks.{one_day}
use Rattle.tz_civil.proofs.laws.week_dates_come_back.Goals as goal

pub returns : goal.returns
returns c = record { one_week_date = week_date_unique; one_day = one_day }
