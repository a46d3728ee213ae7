-- What `parse` says of the digits is what is wrong with the text.
use Rattle.tz_zone.proofs.Common.{ParseInt}
use Rattle.tz_zone.proofs.QuestionMarkExits.{exit}
use Rattle.tz_zone.proofs.TextNumbers.{unsigned_fault}
use Rattle.tz_zone.proofs.parse.tz_string.read_long_date_number.Goals as goal

pub returns-in_err-parse : goal.returns-in_err-parse
returns-in_err-parse c =
    let digits = c.read_digits.result in
    let inner = c.in_err-parse.field-0.0 in
    let told = c.in_err-parse.ensures.value in
    exit _ _ (ParseInt inner) _ c.from_residual.ensures.1
    (unsigned_fault 8 c.args.text.now digits.0.now digits.1.now inner c.read_digits.ensures told.0 told.1)
