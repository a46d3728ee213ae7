-- Each call answers the indexes up to one without an offset, and that one gets its code.
use Rattle.tz_c.proofs.Common.{refl, inl, inr, arith, zone_of_data, ◌<◌, length, IsOffsetAt}
use Rattle.tz.specs.Columns.{IsOffsetAt as IsValueAt}
use Rattle.tz_c.proofs.AnswersInTurn.{all_of, answered_up_to, none_coded, refused_at}
use Rattle.tz_c.proofs.columns.tz_column_offsets.Goals as goal

pub loop-unanswered-init : goal.loop-unanswered-init
loop-unanswered-init c = (
  omega arith,
  none_coded (IsOffsetAt (zone_of_data c.args.zone.now) c.args.unix_times.now) c.args.offsets.now c.clear.new.codes
      (omega (arith, c.clear.ensures.length, c.if-offsets-unix_times.false, c.if-codes-unix_times.false))
      c.clear.ensures.cleared,
)

pub loop-unanswered-preserved : goal.loop-unanswered-preserved
loop-unanswered-preserved c =
    let z = zone_of_data c.args.zone.now in
    let unix_times = c.args.unix_times.now in
    let index = c.in-Err.unanswered.index in
    let refused = rw c.as_zone_data-data.ensures at c.in-Err.ensures.err in
    let answered = answered_up_to (IsOffsetAt z unix_times) (IsValueAt z unix_times) c.args.offsets.now
    c.loop-unanswered.offsets c.write_offsets.new.offsets c.loop-unanswered.codes c.loop-unanswered.first index
    (λ i offset is u at. inl (refl, is u at)) refused.within.0 c.loop-unanswered.invariant.1 refused.up_to in
    let before : index < length c.args.offsets.now =
    omega (arith, refused.within.1, c.loop-unanswered.invariant.1.so_far.lengths_are.0) in (
      omega (arith, before, c.if-offsets-unix_times.false),
      refused_at (IsOffsetAt z unix_times) c.args.offsets.now c.write_offsets.new.offsets c.loop-unanswered.codes index
          c.code_of.result before
          (λ offset u at. inr (c.in-Err.unanswered.error, c.code_of.ensures, refused.fault u at)) answered,
    )

pub returns-clause-answer : goal.returns-clause-answer
returns-clause-answer c =
    let z = zone_of_data c.args.zone.now in
    let unix_times = c.args.unix_times.now in
    let rest = rw c.as_zone_data-data.ensures at (rw c.in_default.is at c.write_offsets.ensures.ok) in
    let answered = answered_up_to (IsOffsetAt z unix_times) (IsValueAt z unix_times) c.args.offsets.now
    c.loop-unanswered.offsets c.write_offsets.new.offsets c.loop-unanswered.codes c.loop-unanswered.first
    (length unix_times) (λ i offset is u at. inl (refl, is u at)) c.loop-unanswered.invariant.0
    c.loop-unanswered.invariant.1 rest in
    let answers = all_of (IsOffsetAt z unix_times) c.args.offsets.now c.write_offsets.new.offsets
    c.loop-unanswered.codes (length unix_times) answered.so_far (omega (arith, c.if-offsets-unix_times.false)) in
    inl (refl, ((c.if-offsets-unix_times.false, c.if-codes-unix_times.false), answers))
