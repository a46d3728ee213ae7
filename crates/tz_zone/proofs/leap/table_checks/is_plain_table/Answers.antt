-- A table is plain where neither a truncated start nor an expiry is found.
use Rattle.tz_zone.proofs.Common.{◌≡◌, sym, ℤ, Some, Option, LeapSecond, None, false, true, Bool, MatchOption, false≢true, IsStart, ExpiresAt, IfSome, IfNone, is_some, not}
use Rattle.std.specs.Prelude.{MatchBool}
use Rattle.tz_zone.proofs.leap.table_checks.is_plain_table.Goals as goal

at_none : {X : Type 0} (o : Option X) (P : Type 0) (Q : X → Type 0) → is_some o ≡ false → MatchOption o P Q → P
at_none None P Q e h = h
at_none (Some x) P Q e h = absurd (false≢true (sym e))

by_expiry : (expiry : Option ℤ) (b : Bool) (P : Type 0) (Q : ℤ → Type 0) → P → is_some expiry ≡ not b → IfSome expiry Q
    → IfNone expiry ((time : ℤ) → ¬ Q time)
    → MatchBool b (P × ((time : ℤ) → ¬ Q time)) (¬ (P × ((time : ℤ) → ¬ Q time)))
by_expiry None true P Q p is some none = (p, none)
by_expiry None false P Q p is some none = absurd (false≢true is)
by_expiry (Some time) true P Q p is some none = absurd (false≢true (sym is))
by_expiry (Some time) false P Q p is some none = λ plain. plain.1 time some

pub returns-then-is_none : goal.returns-then-is_none
returns-then-is_none c =
    let leaps = c.args.leap_seconds.now in
    by_expiry c.expiry.result c.is_none-then-is_none.result ((l : LeapSecond) → ¬ IsStart leaps l) (ExpiresAt leaps)
    (at_none c.truncated_start.result _ _ c.if-is_none.ensures c.truncated_start.ensures)
    c.is_none-then-is_none.ensures c.expiry.ensures.some c.expiry.ensures.none
