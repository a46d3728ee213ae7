-- A comma, the day, and the time after a slash, unless it is the default one.
use Rattle.tz_zone.proofs.Common.{arith, refl, ints, to_z-of_z, w32, append_assoc, append-nil}
use Rattle.tz_zone.proofs.TzStringTexts.{time_of_day_text-default, time_of_day_text-other}
use Rattle.tz_zone.proofs.parse.tz_string_writer.push_switch.Goals as goal

pub returns-then-time-ne-DEFAULT_TIME-clause-text : goal.returns-then-time-ne-DEFAULT_TIME-clause-text
returns-then-time-ne-DEFAULT_TIME-clause-text c =
    rw (
      c.push_time.ensures.text,
      c.push-then-time-ne-DEFAULT_TIME.ensures.text,
      c.push_day.ensures.text,
      c.push.ensures.text,
      to_z-of_z w32 c.args.time c.ranges.time,
      time_of_day_text-other c.args.time
          (λ e. absurd (omega (arith, ints))),
    ) (simp append_assoc)

pub returns-else-time-ne-DEFAULT_TIME-clause-text : goal.returns-else-time-ne-DEFAULT_TIME-clause-text
returns-else-time-ne-DEFAULT_TIME-clause-text c =
    rw (
      c.push_day.ensures.text,
      c.push.ensures.text,
      time_of_day_text-default c.args.time
          (omega (arith, ints)),
      append-nil,
      append_assoc,
    ) refl
