-- What contracts see of a time zone: its four parts. (RFC 8536, section 3.2.)
use Rattle.std.specs.Prelude.{ℕ, ℤ, List, [], ◌∷◌, Option, None}
use Rattle.tz_rule.specs.LocalTimeType.{LocalTimeType}
use Rattle.tz_rule.specs.declared.timezone.transition_rule.TransitionRule.{TransitionRule}

-- a transition: from a leap time on the type with a number holds
pub record Transition : Type 0 where
  pub unix_leap_time : ℤ
  pub type_index : ℕ

-- a leap second: from a leap time on leap time is ahead of Unix time by the correction
pub record LeapSecond : Type 0 where
  pub unix_leap_time : ℤ
  pub correction : ℤ

-- the parts of a zone
pub record Zone : Type 0 where
  pub transitions : List Transition
  pub types : List LocalTimeType
  pub leap_seconds : List LeapSecond
  pub extra_rule : Option TransitionRule

-- the zone with these parts
abbrev pub zone_with : List Transition → List LocalTimeType → List LeapSecond
    → Option TransitionRule → Zone
zone_with transitions types leaps rule = record {
  transitions = transitions;
  types = types;
  leap_seconds = leaps;
  extra_rule = rule;
}

-- the zone without its transitions
abbrev pub without_transitions : Zone → Zone
without_transitions z = zone_with [] z.types z.leap_seconds z.extra_rule

-- the zone that has one type alone
abbrev pub zone_of_type : LocalTimeType → Zone
zone_of_type t = zone_with [] (t ∷ []) [] None
