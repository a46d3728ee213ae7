-- Bounds that are apart determine the order in each kind of years, and between neighbours.
use Rattle.tz_rule.proofs.Common.{arith, ints, inl, inr, ComesFirst}
use Rattle.tz_rule.proofs.ApartBounds.{never_first, comes_first, no_order_changes}
use Rattle.tz_rule.proofs.SpansOfDays.{are_bounds}
use Rattle.tz_rule.proofs.timezone.year_table.BoundedTable.order_of_bounds.Goals as goal

pub returns-then-last_start-first_end-2 : goal.returns-then-last_start-first_end-2
returns-then-last_start-first_end-2 c =
    let starts = c.args.self.now.table.0 in
    let ends = c.args.ends.now.table.0 in
    let s = are_bounds starts _ _ c.requires.starts in
    let e = are_bounds ends _ _ c.requires.ends in
    let never : ¬ ComesFirst ends starts = never_first ends starts _ _ _ _ e s
    (omega (arith, ints, c.if-last_start-first_end-2.true)) in (
      no_order_changes starts ends _ _ _ _ s e
          (omega (arith, ints, c.if-last_start-first_end.false))
          (omega (arith, ints, c.if-last_end-first_start.false))
          (inr never),
      never,
    )

pub returns-then-last_end-first_start-2 : goal.returns-then-last_end-first_start-2
returns-then-last_end-first_start-2 c =
    let starts = c.args.self.now.table.0 in
    let ends = c.args.ends.now.table.0 in
    let s = are_bounds starts _ _ c.requires.starts in
    let e = are_bounds ends _ _ c.requires.ends in (
      no_order_changes starts ends _ _ _ _ s e
          (omega (arith, ints, c.if-last_start-first_end.false))
          (omega (arith, ints, c.if-last_end-first_start.false))
          (inl (never_first starts ends _ _ _ _ s e (omega (arith, ints, c.if-last_end-first_start-2.true)))),
      comes_first ends starts _ _ _ _ e s (omega (arith, ints, c.if-last_end-first_start-2.true)),
    )
