-- What local time types, days and rules write to a hasher: their parts in order, after the variant.
use Rattle.std.specs.Prelude.{◌++◌}
use Rattle.std.specs.Hash.{HashWrites}
use Rattle.std.specs.Hash as fed
use Rattle.tz_rule.specs.Alternate.{AlternateTime}
use Rattle.tz_rule.specs.LocalTimeType.{LocalTimeType}
use Rattle.tz_rule.specs.declared.timezone.rule_day.RuleDay.{RuleDay}
use Rattle.tz_rule.specs.declared.timezone.rule_day.RuleDay.TheVariants.{Julian1WithoutLeap, Julian0WithLeap, MonthWeekDay}
use Rattle.tz_rule.specs.declared.timezone.transition_rule.TransitionRule.{TransitionRule}
use Rattle.tz_rule.specs.declared.timezone.transition_rule.TransitionRule.TheVariants.{Fixed, Alternate as Two}

abbrev pub type_input : LocalTimeType → HashWrites
type_input t = fed.i32 t.ut_offset ++ (fed.bool t.is_dst ++ fed.option fed.str t.designation)

abbrev pub day_input : RuleDay → HashWrites
day_input (Julian1WithoutLeap day) = fed.u8 0 ++ fed.u16 day
day_input (Julian0WithLeap day) = fed.u8 1 ++ fed.u16 day
day_input (MonthWeekDay day) = fed.u8 2
    ++ (fed.u8 day.month ++ (fed.u8 day.week ++ fed.u8 day.week_day))

abbrev pub alternate_input : AlternateTime → HashWrites
alternate_input r = type_input r.std ++ (type_input r.dst ++ (day_input r.dst_start
    ++ (fed.i32 r.dst_start_time ++ (day_input r.dst_end ++ fed.i32 r.dst_end_time))))

abbrev pub rule_input : TransitionRule → HashWrites
rule_input (Fixed t) = fed.u8 0 ++ type_input t
rule_input (Two r) = fed.u8 1 ++ alternate_input r
