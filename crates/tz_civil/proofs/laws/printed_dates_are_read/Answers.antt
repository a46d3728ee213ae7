-- A date is read as the date of its midnight.
use Rattle.tz_civil.proofs.DatesRead.{printed_date_is_read, text_has_one_date, date_or_fault}
use Rattle.tz_civil.proofs.laws.printed_dates_are_read.Goals as goal

pub returns : goal.returns
returns c = record {
  read = printed_date_is_read;
  one = text_has_one_date;
  either = date_or_fault;
}
