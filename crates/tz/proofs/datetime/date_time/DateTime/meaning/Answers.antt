-- The zone that is searched is that of the call, and so are the fields.
use Rattle.tz.proofs.Common.{subst, to_z-of_z, Fields, Zone, w32, fields_of, IsOutcome}
use Rattle.tz.proofs.datetime.date_time.DateTime.meaning.Goals as goal

pub returns-clause-outcome : goal.returns-clause-outcome
returns-clause-outcome c =
    let f : Fields = fields_of c.args.year c.args.month c.args.month_day c.args.hour c.args.minute c.args.second
    c.args.nanoseconds in
    let outcome = rw (c.new-fields.ensures, to_z-of_z w32 c.args.year c.ranges.year) at c.meaning_in.ensures.outcome in
    subst (λ (z : Zone). IsOutcome (λ e. e) ⊥ z f c.meaning_in.result) c.of.ensures outcome
