-- Bytes have one cut into lines.
use Rattle.tz_query.proofs.UniqueAnswers.{lines_unique}
use Rattle.tz_query.proofs.laws.lines_are_unique.Goals as goal

pub returns : goal.returns
returns c = lines_unique
