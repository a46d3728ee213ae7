-- The parts of a rule's data make that rule, since it has passed all checks.
use Rattle.tz_c.proofs.Common.{SFits, rules, to_z-of_z, w32}
use Rattle.tz_c.proofs.SoundRules.{no_rule_fault}
use Rattle.tz_c.proofs.rule_data.alternate_time_of.Goals as goal

pub unreachable-requires : goal.unreachable-requires
unreachable-requires c =
    let start : SFits w32 c.dst_start_time.result = search rules in
    let end : SFits w32 c.dst_end_time.result = search rules in
    let fault = rw (
      to_z-of_z w32 c.dst_start_time.result start,
      to_z-of_z w32 c.dst_end_time.result end,
      c.std.ensures,
      c.dst.ensures,
      c.day.ensures,
      c.dst_start.ensures,
      c.dst_start_time.ensures,
      c.day-2.ensures,
      c.dst_end.ensures,
      c.dst_end_time.ensures,
    ) at c.in-Err.ensures.err in
    no_rule_fault c.args.rule.now c.in-Err.field-0 c.parts_are_sound.ensures.rule fault
