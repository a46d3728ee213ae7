-- The segment around the instant holds all up to the other one.
use Rattle.tz_zone.proofs.Common.{arith, to_z-of_z, rules, ints, w64, ℤ, ◌≤ℤ◌, Some, Option, None, MatchOption, IfSome}
use Rattle.tz_zone.proofs.clock.window_types.type_through.Goals as goal

-- what holds of an option at each instant
through : {X : Type 0} (o : Option X) (from until : ℤ) (P : ℤ → Type 0) (Q : ℤ → X → Type 0)
    → ((v : ℤ) → from ≤ℤ v → v ≤ℤ until → MatchOption o (P v) (Q v))
    → IfSome o (λ x. (v : ℤ) → from ≤ℤ v → v ≤ℤ until → Q v x)
through (Some x) from until P Q holds = holds
through None from until P Q holds = tt

pub returns : goal.returns
returns c =
    let u = c.args.unix_time in
    let found = c.after_table-segment.result in
    let segment = rw (to_z-of_z w64 u c.ranges.unix_time) at c.after_table-segment.ensures in
    let high_is = to_z-of_z w64 c.args.high c.ranges.high in
    let last_is = to_z-of_z w64 found.last (search rules) in
    let over : c.args.high ≤ℤ found.last = omega (arith, ints, c.if-segment-high.false, last_is, high_is) in
    through found.local_time_type u c.args.high _ _
    (λ v from to. segment.holds v (omega (arith, ints, segment.within.0, from)) (omega (arith, ints, to, over)))
