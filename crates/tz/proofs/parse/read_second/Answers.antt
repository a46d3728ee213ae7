-- The second is this one alone, and past the end.
use Rattle.tz.proofs.Common.{subst, to_z-of_z, rules, fields_of, IsPastTheEnd}
use Rattle.std.specs.Int.{w32}
use Rattle.tz.proofs.TextFronts.{pair_unique}
use Rattle.tz.proofs.parse.read_second.Goals as goal

pub returns-then-is_past_the_end : goal.returns-then-is_past_the_end
returns-then-is_past_the_end c n rest is =
    let date = c.args.date.now in
    let same = pair_unique rest c.in_ok-second.rest.now is.0 c.in_ok-second.ensures in
    subst (λ s. ¬ IsPastTheEnd (fields_of date.year date.month date.month_day c.args.hour c.args.minute s 0)) same.0
    is.1 (rw (to_z-of_z w32 date.year (search rules)) at (subst IsPastTheEnd c.new-fields.ensures
    c.if-is_past_the_end.ensures))
