-- Each call answers the indexes up to one without an instant, and that one gets its code.
use Rattle.tz_c.proofs.Common.{refl, inl, subst, arith, zone_of_data, ◌<◌, length, Option, Disambiguation, IsInstantAt, AreInstantsBy}
use Rattle.tz.specs.InstantColumns.{HoldsInstantAt, IsInstantOf}
use Rattle.tz_c.proofs.AnswersInTurn.{all_of, answered_up_to, none_coded, refused_at}
use Rattle.tz_c.proofs.ColumnInstants.{instant_at, no_instant_at}
use Rattle.tz_c.proofs.columns.tz_column_instants.Goals as goal

pub loop-none-init : goal.loop-none-init
loop-none-init c = (
  omega arith,
  none_coded (IsInstantAt (zone_of_data c.args.zone.now) c.in-Some.disambiguation c.args.fields.now)
      c.args.unix_times.now
      c.clear.new.codes
      (omega (arith, c.clear.ensures.length, c.if-unix_times-fields.false, c.if-codes-fields.false))
      c.clear.ensures.cleared,
)

pub loop-none-preserved : goal.loop-none-preserved
loop-none-preserved c =
    let z = zone_of_data c.args.zone.now in
    let choice = c.in-Some.disambiguation in
    let asked = c.args.fields.now in
    let none = c.in-Err.none in
    let refused = rw c.as_zone_data-data.ensures at c.in-Err.ensures.err in
    let answered = answered_up_to (IsInstantAt z choice asked) (HoldsInstantAt (λ u. u) (IsInstantOf z choice) asked)
    c.args.unix_times.now c.loop-none.unix_times c.write_instants.new.slots c.loop-none.codes c.loop-none.first
    none.index
    (instant_at z choice asked) refused.within.0 c.loop-none.invariant.1 refused.up_to in
    let before : none.index < length c.args.unix_times.now =
    omega (arith, refused.within.1, c.loop-none.invariant.1.so_far.lengths_are.0) in (
      omega (arith, before, c.if-unix_times-fields.false),
      refused_at (IsInstantAt z choice asked) c.args.unix_times.now c.write_instants.new.slots c.loop-none.codes
          none.index
          c.code_of_none.result before
          (no_instant_at z choice asked none.index none.error c.code_of_none.result c.code_of_none.ensures
          refused.none) answered,
    )

pub returns-clause-answer : goal.returns-clause-answer
returns-clause-answer c =
    let z = zone_of_data c.args.zone.now in
    let choice = c.in-Some.disambiguation in
    let asked = c.args.fields.now in
    let rest = rw c.as_zone_data-data.ensures at (rw c.in_default-write_instants.is at c.write_instants.ensures.ok) in
    let answered = answered_up_to (IsInstantAt z choice asked) (HoldsInstantAt (λ u. u) (IsInstantOf z choice) asked)
    c.args.unix_times.now c.loop-none.unix_times c.write_instants.new.slots c.loop-none.codes c.loop-none.first
    (length asked) (instant_at z choice asked) c.loop-none.invariant.0 c.loop-none.invariant.1 rest in
    let answers = all_of (IsInstantAt z choice asked) c.args.unix_times.now c.write_instants.new.slots
    c.loop-none.codes
    (length asked) answered.so_far (omega (arith, c.if-unix_times-fields.false)) in
    subst (λ (o : Option Disambiguation). AreInstantsBy z o asked 0 c.args.unix_times.now c.write_instants.new.slots
    c.args.codes.now c.loop-none.codes) c.in-Some.ensures
    (inl (refl, ((c.if-unix_times-fields.false, c.if-codes-fields.false), answers)))
