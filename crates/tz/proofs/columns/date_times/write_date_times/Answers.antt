-- Each turn answers one index more.
use Rattle.tz.proofs.Common.{◌≡◌, subst, sym, arith, rules, to_z-of_z, w64, SFits, pos, ◌<◌, length, slice_index_or, zone_of_data}
use Rattle.std.proofs.lemmas.Option.{get_or_from_slice_get}
use Rattle.tz.specs.Columns.{AreAnswered}
use Rattle.tz.specs.DateTimeColumns.{IsDateTimeAt}
use Rattle.tz.proofs.ColumnAnswers.{one_more, set_back}
use Rattle.tz.proofs.columns.date_times.write_date_times.Goals as goal

pub loop-i-preserved : goal.loop-i-preserved
loop-i-preserved g c =
    let unix_times = c.args.unix_times.now in
    let nanoseconds = c.args.nanoseconds.now in
    let i = c.loop-i.i in
    let answer_at = IsDateTimeAt g.S.DateTimeSlot.holding (zone_of_data c.args.zone.now) unix_times nanoseconds in
    let fits : SFits w64 (slice_index_or unix_times i (pos 0)) = search rules in
    let answer : answer_at i c.write_date_time.new.slot = λ u n at_u at_n.
    let seconds : slice_index_or unix_times i (pos 0) ≡ u = get_or_from_slice_get unix_times i u (pos 0) at_u in
    let rest : slice_index_or nanoseconds i 0 ≡ n = get_or_from_slice_get nanoseconds i n 0 at_n in
    rw (to_z-of_z w64 (slice_index_or unix_times i (pos 0)) fits, seconds, rest) at
    (rw c.in_default.is at c.write_date_time.ensures.ok) in
    let within : i < length c.loop-i.date_times =
    omega (arith, c.loop-i.invariant.2.length_is, c.requires.lengths, c.loop-i-test.true) in (
      c.segment_around-segment.ensures.segment,
      c.write_date_time.ensures.day,
      one_more answer_at c.args.first i c.args.date_times.now c.loop-i.date_times c.write_date_time.new.slot
          (omega (arith, c.loop-i.auto.i)) within answer c.loop-i.invariant.2,
    )

pub returns-in-Err-clause-err : goal.returns-in-Err-clause-err
returns-in-Err-clause-err g c =
    let unix_times = c.args.unix_times.now in
    let nanoseconds = c.args.nanoseconds.now in
    let i = c.loop-i.i in
    let answer_at = IsDateTimeAt g.S.DateTimeSlot.holding (zone_of_data c.args.zone.now) unix_times nanoseconds in
    let fits : SFits w64 (slice_index_or unix_times i (pos 0)) = search rules in
    record {
      within = (
        omega (arith, c.loop-i.auto.i),
        omega (arith, c.requires.lengths, c.loop-i-test.true),
      );
      fault = λ u n at_u at_n.
          let seconds : slice_index_or unix_times i (pos 0) ≡ u = get_or_from_slice_get unix_times i u (pos 0) at_u in
          let rest : slice_index_or nanoseconds i 0 ≡ n = get_or_from_slice_get nanoseconds i n 0 at_n in
          rw (to_z-of_z w64 (slice_index_or unix_times i (pos 0)) fits, seconds, rest) at c.in-Err.ensures.err;
      up_to = subst (λ slots. AreAnswered answer_at c.args.first i c.args.date_times.now slots)
          (sym (set_back c.loop-i.date_times i c.write_date_time.new.slot _ c.in-Err.ensures.kept))
          c.loop-i.invariant.2;
    }

pub returns-clause-ok : goal.returns-clause-ok
returns-clause-ok g c =
    let end : c.loop-i.i ≡ length c.args.unix_times.now = omega (arith, c.loop-i.auto.i, c.loop-i-test.false) in
    rw end at c.loop-i.invariant.2
