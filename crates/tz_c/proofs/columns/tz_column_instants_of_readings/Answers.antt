-- Each call answers the indexes up to one without an instant, and that one gets its code.
use Rattle.tz_c.proofs.Common.{refl, inl, subst, arith, zone_of_data, ◌<◌, length, Option, Disambiguation}
use Rattle.tz_c.specs.Columns.{AreInstantsOfReadingsBy, IsReadingAt}
use Rattle.tz.specs.InstantColumns.{HoldsInstantAt, IsInstantOfReading}
use Rattle.tz_c.proofs.AnswersInTurn.{all_of, answered_up_to, none_coded, refused_at}
use Rattle.tz_c.proofs.ColumnInstants.{reading_at, no_reading_at}
use Rattle.tz_c.proofs.columns.tz_column_instants_of_readings.Goals as goal

pub loop-none-init : goal.loop-none-init
loop-none-init c = (
  omega arith,
  none_coded (IsReadingAt (zone_of_data c.args.zone.now) c.in-Some.disambiguation c.args.readings.now)
      c.args.unix_times.now
      c.clear.new.codes
      (omega (arith, c.clear.ensures.length, c.if-unix_times-readings.false, c.if-codes-readings.false))
      c.clear.ensures.cleared,
)

pub loop-none-preserved : goal.loop-none-preserved
loop-none-preserved c =
    let z = zone_of_data c.args.zone.now in
    let choice = c.in-Some.disambiguation in
    let asked = c.args.readings.now in
    let none = c.in-Err.none in
    let refused = rw c.as_zone_data-data.ensures at c.in-Err.ensures.err in
    let answered = answered_up_to (IsReadingAt z choice asked)
    (HoldsInstantAt (λ u. u) (IsInstantOfReading z choice) asked)
    c.args.unix_times.now c.loop-none.unix_times c.write_instants_of_readings.new.slots c.loop-none.codes
    c.loop-none.first none.index
    (reading_at z choice asked) refused.within.0 c.loop-none.invariant.1 refused.up_to in
    let before : none.index < length c.args.unix_times.now =
    omega (arith, refused.within.1, c.loop-none.invariant.1.so_far.lengths_are.0) in (
      omega (arith, before, c.if-unix_times-readings.false),
      refused_at (IsReadingAt z choice asked) c.args.unix_times.now c.write_instants_of_readings.new.slots
          c.loop-none.codes none.index
          c.code_of_none.result before
          (no_reading_at z choice asked none.index none.error c.code_of_none.result c.code_of_none.ensures
          refused.none) answered,
    )

pub returns-clause-answer : goal.returns-clause-answer
returns-clause-answer c =
    let z = zone_of_data c.args.zone.now in
    let choice = c.in-Some.disambiguation in
    let asked = c.args.readings.now in
    let written = rw c.in_default-write_instants_of_readings.is at c.write_instants_of_readings.ensures.ok in
    let rest = rw c.as_zone_data-data.ensures at written in
    let answered = answered_up_to (IsReadingAt z choice asked)
    (HoldsInstantAt (λ u. u) (IsInstantOfReading z choice) asked)
    c.args.unix_times.now c.loop-none.unix_times c.write_instants_of_readings.new.slots c.loop-none.codes
    c.loop-none.first
    (length asked) (reading_at z choice asked) c.loop-none.invariant.0 c.loop-none.invariant.1 rest in
    let answers = all_of (IsReadingAt z choice asked) c.args.unix_times.now
    c.write_instants_of_readings.new.slots c.loop-none.codes
    (length asked) answered.so_far (omega (arith, c.if-unix_times-readings.false)) in
    subst (λ (o : Option Disambiguation). AreInstantsOfReadingsBy z o asked 0 c.args.unix_times.now
    c.write_instants_of_readings.new.slots
    c.args.codes.now c.loop-none.codes) c.in-Some.ensures
    (inl (refl, ((c.if-unix_times-readings.false, c.if-codes-readings.false), answers)))
