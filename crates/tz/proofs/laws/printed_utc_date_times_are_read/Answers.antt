-- Each part of a printed text is what the grammar reads there.
use Rattle.tz.proofs.ReadBack.{printed_is_utc}
use Rattle.tz.proofs.laws.printed_utc_date_times_are_read.Goals as goal

pub returns : goal.returns
returns c = printed_is_utc
