-- What follows from a clause on a result holds for the result.
use Rattle.tz_rule.proofs.Common.{arith, ◌≡◌, ints, refl, ℤ, ◌≤ℤ◌, Bool, true, false, ◌<ℤ◌, not, MatchBool, Decides, Option, false≢true, IfNone, IfSome, OnTrue, Some, lt_z}
use Rattle.std.proofs.Common.{None}

pub IfSome-weaker : {T : Type 0} {P Q : T → Type 0} (o : Option T) → ((x : T) → P x → Q x) → IfSome o P → IfSome o Q
IfSome-weaker None f h = tt
IfSome-weaker (Some x) f h = f x h

pub IfNone-weaker : {T P Q : Type 0} (o : Option T) → (P → Q) → IfNone o P → IfNone o Q
IfNone-weaker None f h = f h
IfNone-weaker (Some x) f h = h

pub MatchBool-weaker : {P P' Q Q' : Type 0} (b : Bool) → (P → P') → (Q → Q') → MatchBool b P Q → MatchBool b P' Q'
MatchBool-weaker true f g h = f h
MatchBool-weaker false f g h = g h

pub OnTrue-not : {P Q : Type 0} (b : Bool) → (¬ P → Q) → MatchBool b P (¬ P) → OnTrue (not b) Q
OnTrue-not true f h = tt
OnTrue-not false f h = f h

pub Decides-from_clause : {P : Type 0} (b : Bool) → MatchBool b P (¬ P) → Decides b P
Decides-from_clause true h = (λ _. h, λ _. refl)
Decides-from_clause false h = (λ e. absurd (false≢true e), λ p. absurd (h p))

pub MatchBool-by_test : {P Q : Type 0} (b : Bool) → (b ≡ true → P) → (b ≡ false → Q) → MatchBool b P Q
MatchBool-by_test true if_true if_false = if_true refl
MatchBool-by_test false if_true if_false = if_false refl

pub MatchBool-lt_z : {P Q : Type 0} (a b : ℤ) → (a <ℤ b → P) → (b ≤ℤ a → Q) → MatchBool (lt_z a b) P Q
MatchBool-lt_z a b if_true if_false = MatchBool-by_test (lt_z a b) (λ e. if_true (grind (arith, ints)))
    (λ e. if_false (grind (arith, ints)))
