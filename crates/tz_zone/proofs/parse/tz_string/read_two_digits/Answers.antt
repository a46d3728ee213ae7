-- Two digits with none after are a number.
use Rattle.tz_zone.proofs.TextNumbers.{two_digits}
use Rattle.tz_zone.proofs.parse.tz_string.read_two_digits.Goals as goal

pub returns-in-None : goal.returns-in-None
returns-in-None c =
    let first = c.in_ok-first in
    let second = c.in-Some in
    two_digits c.args.text.now first.rest.now second.after.now first.first second.second first.ensures.1
    second.ensures.1 first.ensures.0 second.ensures.0 c.in-None.ensures
