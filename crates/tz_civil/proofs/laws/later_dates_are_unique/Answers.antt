-- A number has one date.
use Rattle.tz_civil.proofs.CivilDates.{one_date}
use Rattle.tz_civil.proofs.UniqueDates.{days_later_unique, months_later_unique}
use Rattle.tz_civil.proofs.laws.later_dates_are_unique.Goals as goal

pub returns : goal.returns
returns c = record {
  number = one_date;
  days = days_later_unique;
  months = months_later_unique;
}
