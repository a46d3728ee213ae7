-- What a zone writes to a hasher: its parts in order.
use Rattle.std.specs.Prelude.{◌++◌}
use Rattle.std.specs.Hash.{HashWrites}
use Rattle.std.specs.Hash as fed
use Rattle.tz_rule.specs.RuleHash.{type_input, rule_input}
use Rattle.tz_zone.specs.Table.{Transition, LeapSecond, Zone}

abbrev pub transition_input : Transition → HashWrites
transition_input t = fed.i64 t.unix_leap_time ++ fed.usize t.type_index

abbrev pub leap_input : LeapSecond → HashWrites
leap_input l = fed.i64 l.unix_leap_time ++ fed.i32 l.correction

abbrev pub zone_input : Zone → HashWrites
zone_input z = fed.slice transition_input z.transitions ++ (fed.slice type_input z.types
    ++ (fed.slice leap_input z.leap_seconds ++ fed.option rule_input z.extra_rule))
