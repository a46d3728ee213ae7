-- Rules are undefined at the instant.
use Rattle.tz_rule.proofs.Common.{to_z-of_z, w64}
use Rattle.tz_rule.proofs.timezone.alternate_time.AlternateData.outer_segment.Goals as goal

pub returns-in-None : goal.returns-in-None
returns-in-None c = rw (to_z-of_z w64 c.args.unix_time c.ranges.unix_time) at (c.undefined_segment.ensures
    c.args.self.now)
