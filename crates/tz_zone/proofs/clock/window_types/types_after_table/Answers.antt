-- The segment after the table around the first instant holds the window, or ends in it.
use Rattle.tz_zone.proofs.Common.{arith, to_z-of_z, rules, ints, w64, ◌≤ℤ◌, ◌<ℤ◌, pos, ◌+ℤ◌}
use Rattle.tz_zone.proofs.clock.window_types.types_after_table.Goals as goal

pub returns-then-high-first-clause-types : goal.returns-then-high-first-clause-types
returns-then-high-first-clause-types c = λ v from to.
    let first = c.after_table-first.result in
    let segment = rw (to_z-of_z w64 c.args.low c.ranges.low) at c.after_table-first.ensures in
    let high_is = to_z-of_z w64 c.args.high c.ranges.high in
    let last_is = to_z-of_z w64 first.last (search rules) in
    let over : c.args.high ≤ℤ first.last = omega (arith, ints, c.if-high-first.true, last_is, high_is) in
    rw c.in-Some.is at segment.holds v (omega (arith, ints, segment.within.0, from)) (omega (arith, ints, to, over))

pub returns-in-Some-type_through-clause-types : goal.returns-in-Some-type_through-clause-types
returns-in-Some-type_through-clause-types c =
    let first = c.after_table-first.result in
    let high_is = to_z-of_z w64 c.args.high c.ranges.high in
    let last_is = to_z-of_z w64 first.last (search rules) in
    let segment = rw (to_z-of_z w64 c.args.low c.ranges.low) at c.after_table-first.ensures in
    let ends : first.last <ℤ c.args.high = omega (arith, ints, c.if-high-first.false, last_is, high_is) in
    let jump_is = to_z-of_z w64 (first.last +ℤ pos 1) (search rules) in
    rw (last_is, jump_is) (
      omega (arith, ints, segment.within.1),
      omega (arith, ints, ends),
      (λ v from until. rw c.in-Some.is at segment.holds v (omega (arith, ints, segment.within.0, from))
          (omega (arith, ints, until))),
      rw (last_is, jump_is, high_is) at c.in-Some-type_through.ensures,
    )
