use Rattle.tz_zone.proofs.TextFaults.{reads_texts}
use Rattle.tz_zone.proofs.parse.tz_string.parse_posix_tz.Goals as goal

pub returns-clause-only : goal.returns-clause-only
returns-clause-only c = reads_texts c.args.extended c.args.text.now c.read_text.result c.read_text.ensures
