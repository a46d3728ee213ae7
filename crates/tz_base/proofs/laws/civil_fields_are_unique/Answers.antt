-- Day numbers rise with the dates, so no two dates share one.
use Rattle.tz_base.proofs.DateOrder.{civil_unique}
use Rattle.tz_base.proofs.laws.civil_fields_are_unique.Goals as goal

pub returns : goal.returns
returns c = civil_unique
