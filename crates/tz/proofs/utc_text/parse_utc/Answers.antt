-- What is missing stands within the text.
use Rattle.tz.proofs.Common.{arith}
use Rattle.tz.proofs.UtcTexts.{utc_missing_within}
use Rattle.tz.proofs.utc_text.parse_utc.Goals as goal

pub overflow_sub-result : goal.overflow_sub-result
overflow_sub-result c =
    utc_missing_within c.args.text.now c.in-Err.missing.part c.in-Err.missing.rest.now c.in-Err.ensures

pub returns-in-Err-clause-err : goal.returns-in-Err-clause-err
returns-in-Err-clause-err c = (c.in-Err.missing.rest.now, c.in-Err.ensures, omega (arith, overflow_sub-result c))
