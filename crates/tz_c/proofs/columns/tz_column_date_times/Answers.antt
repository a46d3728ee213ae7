-- Each call answers the indexes up to one at which the clock shows no date time, and that one gets its code.
use Rattle.tz_c.proofs.Common.{refl, inl, inr, arith, zone_of_data, ◌<◌, ℕ, ℤ, Zone, length, IsDateTimeAt, IsDateTimeDataOf, ShowsByClock}
use Rattle.tz.specs.DateTimeColumns.{HoldsShown, IsDateTimeAt as IsValueAt}
use Rattle.tz_c.specs.DateTimeData.{date_time_data}
use Rattle.tz_c.specs.declared.date_time_data.DateTimeData.{DateTimeData}
use Rattle.tz_c.proofs.AnswersInTurn.{all_of, answered_up_to, none_coded, refused_at}
use Rattle.tz_c.proofs.columns.tz_column_date_times.Goals as goal

-- what a slot holds is a date time, with the offset that its type has
written_is : (z : Zone) (u : ℤ) (n : ℕ) (written : DateTimeData) → HoldsShown date_time_data z u n written
    → IsDateTimeDataOf (ShowsByClock z u n) written
written_is z u n written (d, (t, is, shows), same) =
    rw same (
      record { valid = shows.civil.valid; reads = rw (shows.instant_is, shows.type_is) shows.civil.reads },
      (t, is, shows),
    )

pub loop-unshown-init : goal.loop-unshown-init
loop-unshown-init c = (
  omega arith,
  none_coded (IsDateTimeAt (zone_of_data c.args.zone.now) c.args.unix_times.now c.args.nanoseconds.now)
      c.args.date_times.now c.clear.new.codes
      (omega (arith, c.clear.ensures.length, c.if-date_times-unix_times.false, c.if-codes-unix_times.false))
      c.clear.ensures.cleared,
)

pub loop-unshown-preserved : goal.loop-unshown-preserved
loop-unshown-preserved c =
    let z = zone_of_data c.args.zone.now in
    let answer_at = IsDateTimeAt z c.args.unix_times.now c.args.nanoseconds.now in
    let value_at = IsValueAt date_time_data z c.args.unix_times.now c.args.nanoseconds.now in
    let index = c.in-Err.unshown.index in
    let refused = rw c.as_zone_data-data.ensures at c.in-Err.ensures.err in
    let answered = answered_up_to answer_at value_at c.args.date_times.now c.loop-unshown.date_times
    c.write_date_times.new.date_times c.loop-unshown.codes c.loop-unshown.first index
    (λ i written is u n at_u at_n. inl (refl, written_is z u n written (is u n at_u at_n))) refused.within.0
    c.loop-unshown.invariant.1 refused.up_to in
    let before : index < length c.args.date_times.now =
    omega (arith, refused.within.1, c.loop-unshown.invariant.1.so_far.lengths_are.0) in (
      omega (arith, before, c.if-date_times-unix_times.false),
      refused_at answer_at c.args.date_times.now c.write_date_times.new.date_times c.loop-unshown.codes index
          c.code_of.result before
          (λ written u n at_u at_n.
          inr (c.in-Err.unshown.error, c.code_of.ensures, refused.fault u n at_u at_n)) answered,
    )

pub returns-clause-answer : goal.returns-clause-answer
returns-clause-answer c =
    let z = zone_of_data c.args.zone.now in
    let unix_times = c.args.unix_times.now in
    let answer_at = IsDateTimeAt z unix_times c.args.nanoseconds.now in
    let value_at = IsValueAt date_time_data z unix_times c.args.nanoseconds.now in
    let rest = rw c.as_zone_data-data.ensures at (rw c.in_default.is at c.write_date_times.ensures.ok) in
    let answered = answered_up_to answer_at value_at c.args.date_times.now c.loop-unshown.date_times
    c.write_date_times.new.date_times c.loop-unshown.codes c.loop-unshown.first (length unix_times)
    (λ i written is u n at_u at_n. inl (refl, written_is z u n written (is u n at_u at_n)))
    c.loop-unshown.invariant.0 c.loop-unshown.invariant.1 rest in
    let answers = all_of answer_at c.args.date_times.now c.write_date_times.new.date_times c.loop-unshown.codes
    (length unix_times) answered.so_far (omega (arith, c.if-date_times-unix_times.false)) in
    inl (
      refl,
      (
        c.if-nanoseconds-unix_times.false,
        (c.if-date_times-unix_times.false, c.if-codes-unix_times.false),
        answers,
      ),
    )
