-- No entry has another code.
use Rattle.tz_c.proofs.Common.{rules, texts}
use Rattle.tz_c.proofs.CodeTexts.{none_in}
use Rattle.tz_c.proofs.codes.text_of.Goals as goal

pub returns-in_default : goal.returns-in_default
returns-in_default c = none_in texts c.args.code (search rules)
