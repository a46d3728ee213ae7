-- By year, by month and by day.
use Rattle.tz_base.proofs.DateOrder.{day_number-mono}
use Rattle.tz_base.proofs.laws.day_numbers_rise.Goals as goal

pub returns : goal.returns
returns c = day_number-mono
