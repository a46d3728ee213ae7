-- The looks are those of a view at which none had been taken, in the zone of the call.
use Rattle.tz.proofs.Common.{arith, subst, sym, to_z-of_z, ◌<◌, length, Fields, IsClock, Zone, w32, ◌^◌, err_from_is_err_and, reading, fields_of, IsFindFault, AtMostTakeEffectAround, IsPromised}
use Rattle.tz.proofs.datetime.date_time.DateTime.listed_counted.Goals as goal

pub returns-clause-at_most : goal.returns-clause-at_most
returns-clause-at_most c b w bits around =
    let f : Fields = fields_of c.args.year c.args.month c.args.month_day c.args.hour c.args.minute c.args.second
    c.args.nanoseconds in
    let looks = (rw (c.new-fields.ensures, to_z-of_z w32 c.args.year c.ranges.year) at c.in_ok-list.ensures).looks in
    let bits' = subst (λ (z : Zone). length z.transitions < 2 ^ b) (sym c.of.ensures) bits in
    let around' = subst (λ (z : Zone). AtMostTakeEffectAround z (reading f) w) (sym c.of.ensures) around in
    omega (arith, looks.at_most b w bits' around', c.counted-view.ensures.looks, c.looks.ensures)

pub returns-in_err-list-clause-outcome : goal.returns-in_err-list-clause-outcome
returns-in_err-list-clause-outcome c =
    let f : Fields = fields_of c.args.year c.args.month c.args.month_day c.args.hour c.args.minute c.args.second
    c.args.nanoseconds in
    let p = err_from_is_err_and c.from_residual.result c.from_residual.ensures.1 in
    let outcome = rw (c.new-fields.ensures, to_z-of_z w32 c.args.year c.ranges.year) at c.in_err-list.ensures.outcome in
    rw (p.1, p.2) (record {
      valid = tt;
      made = tt;
      promised = λ promised. outcome.promised
          (subst (λ (z : Zone). IsPromised z c.args.year) (sym c.of.ensures) promised);
      err = subst (λ (z : Zone). IsFindFault ⊥ (IsClock z) f c.in_err-list.field-0.0.fault) c.of.ensures outcome.err;
    })
