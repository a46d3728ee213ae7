use Rattle.tz_zone.proofs.TextNumbers.{digits_are_text}
use Rattle.tz_zone.proofs.parse.tz_string.read_digits.Goals as goal

pub from_utf8_unchecked-requires : goal.from_utf8_unchecked-requires
from_utf8_unchecked-requires c = digits_are_text c.split_digits.ensures
