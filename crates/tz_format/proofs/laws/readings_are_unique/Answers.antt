-- A reading of a text is what `read` returns.
use Rattle.tz_format.proofs.UniqueReadings.{unique}
use Rattle.tz_format.proofs.laws.readings_are_unique.Goals as goal

pub returns : goal.returns
returns c = λ readable s t s_is t_is. unique _ _ _ c.read.ensures.once c.read.ensures.err readable s t s_is t_is
