-- Each turn answers one index more.
use Rattle.tz.proofs.Common.{◌≡◌, arith, rules, to_z-of_z, w64, w32, SFits, pos, ◌<◌, length, slice_index_or, zone_of_data}
use Rattle.std.proofs.lemmas.Option.{get_or_from_slice_get}
use Rattle.tz.specs.Columns.{IsOffsetAt}
use Rattle.tz.proofs.ColumnAnswers.{one_more}
use Rattle.tz.proofs.columns.write_offsets_of_block.Goals as goal

pub loop-i-preserved : goal.loop-i-preserved
loop-i-preserved c =
    let unix_times = c.args.unix_times.now in
    let i = c.loop-i.i in
    let offset_at = IsOffsetAt (zone_of_data c.args.zone.now) unix_times in
    let fits : SFits w64 (slice_index_or unix_times i (pos 0)) = search rules in
    let offset : offset_at i c.ut_offset.result = λ u at.
    let read : slice_index_or unix_times i (pos 0) ≡ u = get_or_from_slice_get unix_times i u (pos 0) at in (
      c.in-Ok.local_time_type.now,
      (rw (to_z-of_z w64 (slice_index_or unix_times i (pos 0)) fits, read) at c.in-Ok.ensures.ok).1,
      c.ut_offset.ensures.value,
    ) in
    let offset_fits : SFits w32 c.ut_offset.result = search rules in
    let within : i < length c.loop-i.offsets =
    omega (arith, c.loop-i.invariant.1.length_is, c.requires.lengths, c.requires.block, c.loop-i-test.true) in
    rw (to_z-of_z w32 c.ut_offset.result offset_fits) (
      c.in-Ok.ensures.ok.0,
      one_more offset_at c.args.index i c.args.offsets.now c.loop-i.offsets c.ut_offset.result
          (omega (arith, c.loop-i.auto.i)) within offset c.loop-i.invariant.1,
    )

pub returns-in-Err-clause-err : goal.returns-in-Err-clause-err
returns-in-Err-clause-err c =
    let unix_times = c.args.unix_times.now in
    let i = c.loop-i.i in
    let fits : SFits w64 (slice_index_or unix_times i (pos 0)) = search rules in
    record {
      within = (
        omega (arith, c.loop-i.auto.i),
        omega (arith, c.requires.lengths, c.requires.block, c.loop-i-test.true),
      );
      fault = λ u at.
          let read : slice_index_or unix_times i (pos 0) ≡ u = get_or_from_slice_get unix_times i u (pos 0) at in
          rw (to_z-of_z w64 (slice_index_or unix_times i (pos 0)) fits, read) at c.in-Err.ensures.err;
      up_to = c.loop-i.invariant.1;
    }

pub returns-else-is_near-clause-ok : goal.returns-else-is_near-clause-ok
returns-else-is_near-clause-ok c =
    let end : c.loop-i.i ≡ c.args.end = omega (arith, c.loop-i.auto.i, c.loop-i-test.false, c.requires.block) in
    rw end at c.loop-i.invariant.1
