-- The day and the rule whose bytes are all zero: January 1st, and UTC all year.
use Rattle.std.specs.Prelude.{pos}
use Rattle.tz_rule.specs.LocalTimeType.{plain_type}
use Rattle.tz_rule.specs.Alternate.{AlternateTime, alternate_of}
use Rattle.tz_rule.specs.declared.timezone.rule_day.RuleDay.{RuleDay}
use Rattle.tz_rule.specs.declared.timezone.rule_day.RuleDay.TheVariants.{Julian0WithLeap}

abbrev pub zero_day : RuleDay
zero_day = Julian0WithLeap 0

abbrev pub zero_rule : AlternateTime
zero_rule = alternate_of (plain_type (pos 0)) (plain_type (pos 0)) zero_day (pos 0) zero_day (pos 0)
