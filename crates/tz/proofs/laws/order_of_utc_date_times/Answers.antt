-- The order of the fields is that of the totals.
use Rattle.tz.proofs.FieldOrder.{below_60, order_of_totals}
use Rattle.tz.proofs.laws.order_of_utc_date_times.Goals as goal

pub returns : goal.returns
returns c a b is_a is_b below_a below_b =
    order_of_totals a b (below_60 a is_a.valid below_a) (below_60 b is_b.valid below_b)
