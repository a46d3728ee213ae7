-- A text that is no UTF-8 is no name.
use Rattle.tz_c.proofs.Common.{refl, inr}
use Rattle.tz_c.proofs.NameBytes.{name_is_text}
use Rattle.tz_c.proofs.texts.tz_name_check.Goals as goal

pub returns-in-Err : goal.returns-in-Err
returns-in-Err c = inr (refl, λ is. c.in-Err.ensures.cases.0 (name_is_text c.args.name.now is))
