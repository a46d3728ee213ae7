-- The parts of a rule as contracts see them.
use Rattle.tz_rule.specs.Alternate.{AlternateTime, alternate_of}
use Rattle.tz_rule.specs.declared.timezone.alternate_time.Parts.{Parts}

abbrev pub rule_of : Parts → AlternateTime
rule_of p = alternate_of p.std p.dst p.dst_start p.dst_start_time p.dst_end p.dst_end_time
