-- What is left are the bytes without white space at their ends.
use Rattle.tz_zone.proofs.TzFrames.{trim_is}
use Rattle.tz_zone.proofs.parse.tz_file.trim.Goals as goal

pub returns : goal.returns
returns c = trim_is c.args.bytes.now c.trim_ascii.result.now c.trim_ascii.ensures.value
