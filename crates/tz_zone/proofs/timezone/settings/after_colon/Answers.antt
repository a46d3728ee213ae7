use Rattle.tz_zone.proofs.Common.{arith, colon}
use Rattle.std.proofs.lemmas.Str.Pattern.{strip_prefix_char}
use Rattle.tz_zone.proofs.Directories.{bare_text}
use Rattle.tz_zone.proofs.timezone.settings.after_colon.Goals as goal

pub returns : goal.returns
returns c = bare_text colon c.args.text.now c.strip_prefix.result
    (strip_prefix_char colon c.args.text.now c.strip_prefix.result c.strip_prefix.ensures.cases (omega arith))
