-- The reading at the start is one of the day.
use Rattle.tz_civil.proofs.UniqueStarts.{date_at_start, not_before_start}
use Rattle.tz_civil.proofs.laws.starts_show_their_date.Goals as goal

pub returns-clause-date : goal.returns-clause-date
returns-clause-date c = date_at_start

pub returns-clause-before : goal.returns-clause-before
returns-clause-before c = not_before_start
