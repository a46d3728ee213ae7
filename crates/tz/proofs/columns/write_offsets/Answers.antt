-- A block is answered after those before it.
use Rattle.tz.proofs.Common.{refl, ◌≡◌, ◌∙◌, sym, ap, Some, arith, rules, to_z-of_z, w32, SFits, ◌≤◌, length, zone_of_data}
use Rattle.std.specs.Option.{option_copied}
use Rattle.tz_zone.specs.Changes.{segment_of}
use Rattle.tz.specs.Columns.{IsOffsetAt, IsOffsetFaultAt}
use Rattle.tz.proofs.ColumnAnswers.{and_then, filled, still_first}
use Rattle.tz.proofs.columns.write_offsets.Goals as goal

pub loop-index-preserved-in-Some : goal.loop-index-preserved-in-Some
loop-index-preserved-in-Some c =
    let z = zone_of_data c.args.zone.now in
    let s = segment_of c.loop-index.segment in
    let t = c.in-Some.local_time_type.now in
    let is : s.local_time_type ≡ Some t = sym c.local_time_type.ensures ∙ ap option_copied c.in-Some.is in
    let offset_fits : SFits w32 c.ut_offset.result = search rules in
    let block = filled z s t c.args.unix_times.now c.loop-index.index c.block_end-end.result c.ut_offset.result
    c.loop-index.offsets c.fill_block.new.offsets c.loop-index.invariant.0 is (c.if-holds_all.ensures refl)
    c.block_end-end.ensures.up_to c.ut_offset.ensures.value
    (rw (to_z-of_z w32 c.ut_offset.result offset_fits) at c.fill_block.ensures) in
    let from = c.loop-index.invariant.1 in
    let to : c.args.first ≤ c.block_end-end.result = omega (arith, from, c.block_end-end.ensures.above) in
    let on : c.loop-index.index ≤ c.block_end-end.result = omega (arith, c.block_end-end.ensures.above) in (
      c.loop-index.invariant.0,
      to,
      c.block_end-end.ensures.up_to,
      and_then (IsOffsetAt z c.args.unix_times.now) c.args.first c.loop-index.index c.block_end-end.result
          c.args.offsets.now c.loop-index.offsets c.fill_block.new.offsets from on c.loop-index.invariant.3 block,
    )

pub loop-index-preserved : goal.loop-index-preserved
loop-index-preserved c =
    let from = c.loop-index.invariant.1 in
    let to : c.args.first ≤ c.block_end-end.result = omega (arith, from, c.block_end-end.ensures.above) in
    let on : c.loop-index.index ≤ c.block_end-end.result = omega (arith, c.block_end-end.ensures.above) in (
      c.in-Ok.ensures.segment,
      to,
      c.block_end-end.ensures.up_to,
      and_then (IsOffsetAt (zone_of_data c.args.zone.now) c.args.unix_times.now) c.args.first c.loop-index.index
          c.block_end-end.result c.args.offsets.now c.loop-index.offsets c.write_offsets_of_block.new.offsets from on
          c.loop-index.invariant.3 c.in-Ok.ensures.ok,
    )

pub returns-in-Err-clause-err : goal.returns-in-Err-clause-err
returns-in-Err-clause-err c =
    still_first (IsOffsetAt (zone_of_data c.args.zone.now) c.args.unix_times.now)
    (IsOffsetFaultAt (zone_of_data c.args.zone.now) c.args.unix_times.now)
    c.args.first c.loop-index.index c.args.offsets.now c.loop-index.offsets
    c.write_offsets_of_block.new.offsets c.in-Err.unanswered c.loop-index.invariant.1 c.loop-index.invariant.3
    c.in-Err.ensures.err

pub returns-clause-ok : goal.returns-clause-ok
returns-clause-ok c =
    let end : c.loop-index.index ≡ length c.args.unix_times.now =
    omega (arith, c.loop-index.invariant.2, c.loop-index-test.false) in
    rw end at c.loop-index.invariant.3
