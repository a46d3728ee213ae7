-- Where a run ends: at a byte that does not pass, or at the end of the text.
use Rattle.tz_zone.proofs.Common.{◌≡◌, ℕ, refl, ◌∙◌, subst, ap, List, [], false, ◌∷◌, true, Bool, eqb, ◌++◌, take_while, cond, IsRun, Begins, eqb-true, take_while-cons, IsUnclosed, closing_bracket, is_in_brackets, not-false, opening_bracket}

end_of_step : (test : ℕ → Bool) (x b : ℕ) (xs rest : List ℕ) (d : Bool) → test x ≡ d
    → (xs ≡ take_while test xs ++ (b ∷ rest) → test b ≡ false)
    → x ∷ xs ≡ cond d (x ∷ take_while test xs) [] ++ (b ∷ rest) → test b ≡ false
end_of_step test x b xs rest true passes further e = let tail : xs ≡ take_while test xs ++ (b ∷ rest) = cc in
    further tail
end_of_step test x b xs rest false stops further e = let head : b ≡ x = cc in ap test head ∙ stops

run_stops : (test : ℕ → Bool) (text rest : List ℕ) (b : ℕ) → text ≡ take_while test text ++ (b ∷ rest) → test b ≡ false
run_stops test [] rest b e = let none : [] ≡ b ∷ rest = e in cc
run_stops test (x ∷ xs) rest b e =
    end_of_step test x b xs rest (test x) refl (run_stops test xs rest b)
    (e ∙ ap (λ run. run ++ (b ∷ rest)) (take_while-cons test x xs))

pub stops_at : (test : ℕ → Bool) (text run rest : List ℕ) (b : ℕ) → IsRun test text run (b ∷ rest) → test b ≡ false
stops_at test text run rest b r = run_stops test text rest b (r.parts ∙ ap (λ x. x ++ (b ∷ rest)) r.longest)

over : (text name rest : List ℕ) → IsRun is_in_brackets text name rest → ¬ Begins closing_bracket rest → rest ≡ []
over text name [] run unbroken = refl
over text name (b ∷ bs) run unbroken =
    let bracket = eqb-true b closing_bracket
    (not-false (eqb b closing_bracket) (stops_at is_in_brackets text name bs b run)) in
    absurd (unbroken (bs, ap (λ x. x ∷ bs) bracket))

pub unclosed : (text quoted name rest : List ℕ) → text ≡ opening_bracket ∷ quoted
    → IsRun is_in_brackets quoted name rest → ¬ Begins closing_bracket rest → IsUnclosed text
unclosed text quoted name rest e run unbroken =
    let P : List ℕ → Type 0 = λ after. IsRun is_in_brackets quoted name after in
    (quoted, name, e, subst P (over quoted name rest run unbroken) run)
