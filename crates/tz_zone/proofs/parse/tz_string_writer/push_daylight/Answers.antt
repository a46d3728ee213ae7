-- The parts in turn, without an offset that is the default one.
use Rattle.tz_zone.proofs.Common.{arith, refl, ◌≡◌, ints, sym, to_z-of_z, rules, ◌++◌, w32, append_assoc, append-nil, daylight_offset_text}
use Rattle.tz_zone.proofs.TzStringTexts.{daylight_offset_text-default, daylight_offset_text-other}
use Rattle.tz_zone.proofs.parse.tz_string_writer.push_daylight.Goals as goal
use Rattle.tz_zone.proofs.parse.tz_string_writer.push_daylight.Goals.{then-ut_offset, else-ut_offset}

pub returns-clause-text : goal.returns-clause-text
returns-clause-text c =
    let std = c.args.rule.now.std.ut_offset in
    let dst = c.args.rule.now.dst.ut_offset in
    let std_is = rw c.std.ensures at c.ut_offset-2.ensures.value in
    let dst_is = rw c.dst-2.ensures at c.ut_offset.ensures.value in
    let std_fits = to_z-of_z w32 c.ut_offset-2.result (search rules) in
    let dst_fits = to_z-of_z w32 c.ut_offset.result (search rules) in
    let offset : c.if-ut_offset.buffer ≡ c.push_name.new.buffer ++ daylight_offset_text std dst =
    elim c.if-ut_offset.branch [
      | then-ut_offset w ↦
          rw (
            w.buffer-is,
            w.push_offset.ensures.text,
            to_z-of_z w32 w.ut_offset-then-ut_offset.result
                (search rules),
            w.ut_offset-then-ut_offset.ensures.value,
            w.dst-then-ut_offset.ensures,
            daylight_offset_text-other std dst (λ e.
                absurd (omega (arith, ints, w.if-ut_offset.true, std_is, dst_is, std_fits, dst_fits))),
          ) refl
      | else-ut_offset w ↦
          rw (
            w.buffer-is,
            daylight_offset_text-default std dst
                (omega (arith, ints, w.if-ut_offset.false, std_is, dst_is, std_fits, dst_fits)),
          )
          (sym (append-nil c.push_name.new.buffer))
    ] in
    rw (
      c.push_switch-2.ensures.text,
      c.push_switch.ensures.text,
      offset,
      c.push_name.ensures.text,
      c.designation_bytes.ensures.text,
      to_z-of_z w32 c.dst_start_time.result (search rules),
      to_z-of_z w32 c.dst_end_time.result (search rules),
      c.dst.ensures,
      c.dst_start.ensures,
      c.dst_start_time.ensures,
      c.dst_end.ensures,
      c.dst_end_time.ensures,
    )
    (simp append_assoc)
