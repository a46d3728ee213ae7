-- A name in brackets is the run before the closing one.
use Rattle.tz_zone.proofs.Common.{refl}
use Rattle.tz_zone.proofs.TextParts.{unclosed}
use Rattle.tz_zone.proofs.parse.tz_string.read_name.Goals as goal

pub returns-in-None : goal.returns-in-None
returns-in-None c = (
  refl,
  unclosed c.args.text.now c.in-Some.quoted.now c.split_at_bracket.result.0.now c.split_at_bracket.result.1.now
      c.in-Some.ensures c.split_at_bracket.ensures c.in-None.ensures,
)
