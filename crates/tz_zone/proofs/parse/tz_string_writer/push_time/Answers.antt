-- By the sign of the time.
use Rattle.tz_zone.proofs.Common.{arith, refl, ints, to_z-of_z, w32, append_assoc}
use Rattle.tz_zone.proofs.TzStringTexts.{signed_time_text-negative, signed_time_text-plain}
use Rattle.tz_zone.proofs.parse.tz_string_writer.push_time.Goals as goal
use Rattle.tz_zone.proofs.parse.tz_string_writer.push_time.Goals.{then-seconds-lt0, else-seconds-lt0}

pub returns-clause-text : goal.returns-clause-text
returns-clause-text c =
    rw (c.push_plain_time.ensures.text, c.unsigned_abs.ensures.value, to_z-of_z w32 c.args.seconds c.ranges.seconds)
    (elim c.if-seconds-lt0.branch [
      | then-seconds-lt0 w ↦ rw (
        w.buffer-is,
        w.push.ensures.text,
        signed_time_text-negative c.args.seconds
            (omega (arith, ints)),
        append_assoc,
      ) refl
      | else-seconds-lt0 w ↦ rw (w.buffer-is, signed_time_text-plain c.args.seconds (omega (arith, ints))) refl
    ])
