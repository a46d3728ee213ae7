-- A name is ASCII, so it is a text.
use Rattle.std.proofs.lemmas.Str.{IsUtf8-from_ascii}
use Rattle.tz_rule.proofs.timezone.local_time_type.Designation.as_str.Goals as goal

pub from_utf8_unchecked-requires : goal.from_utf8_unchecked-requires
from_utf8_unchecked-requires c = IsUtf8-from_ascii _ c.as_bytes.ensures.ascii
