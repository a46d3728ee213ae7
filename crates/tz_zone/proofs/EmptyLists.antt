-- What a list is that is empty, or is not, and the test of it.
use Rattle.tz_zone.proofs.Common.{◌≡◌, arith, refl, sym, length, ◌∙◌, ◌<◌, ap, List, [], ◌≢◌, false, ◌∷◌, true, eqb, false≢true, nil_from_length, eqb-true}

pub none_if_empty : {X : Type 0} (xs : List X) → true ≡ eqb (length xs) 0 → xs ≡ []
none_if_empty xs e = nil_from_length xs (eqb-true (length xs) 0 (sym e))

pub some_unless_empty : {X : Type 0} (xs : List X) → false ≡ eqb (length xs) 0 → xs ≢ []
some_unless_empty xs e none = false≢true (e ∙ ap (λ ys. eqb (length ys) 0) none)

pub length_of_some : {X : Type 0} (xs : List X) → xs ≢ [] → 0 < length xs
length_of_some [] some = absurd (some refl)
length_of_some (x ∷ xs) some = omega arith
