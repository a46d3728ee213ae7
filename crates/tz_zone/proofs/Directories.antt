-- The directories from a position of the list on, and a text without a first byte.
use Rattle.tz_zone.proofs.Common.{◌≡◌, ℕ, refl, sym, inr, inl, length, ◌∙◌, subst, ◌<◌, ap, List, Some, [], ◌+◌, Option, ◌≢◌, None, false, ◌∷◌, get_or, Err, Ok, Result, Bor, drop, Begins, FindsIn, Read, slash, Failed, Finds, Global, Vec, texts_of, add-one, path_in}
use Rattle.std.proofs.Common.{IfOk}
use Rattle.anyhow.specs.declared.error.Error.{Error as Fault}
use Rattle.std.proofs.Math.Seq.{drop-cons}
use Rattle.std.specs.Option.{MatchOption}

pub bare_text : (b : ℕ) (text : List ℕ) (r : Option (Bor (List ℕ)))
    → MatchOption r ((rest : List ℕ) → text ≢ b ∷ rest) (λ x. text ≡ b ∷ x.now)
    → MatchOption r (¬ Begins b text) (λ x. text ≡ b ∷ x.now)
bare_text b text None h = λ begins. h begins.0 begins.1
bare_text b text (Some x) h = h

first_of_rest : (directories : List (Bor (List ℕ))) (i : ℕ) (d : Bor (List ℕ)) → i < length directories
    → texts_of (drop i directories) ≡ (get_or directories i d).now ∷ texts_of (drop (i + 1) directories)
first_of_rest directories i d within =
    ap texts_of (drop-cons directories i d within)
    ∙ ap (λ n. (get_or directories i d).now ∷ texts_of (drop n directories)) (sym (add-one i))

-- bytes in the directory at a position, and a failure there
pub found_here : (reads : List ℕ → Read → Type 0) (directories : List (Bor (List ℕ))) (i : ℕ) (d : Bor (List ℕ))
    (name : List ℕ) (bytes : Vec ℕ Global) → i < length directories
    → reads (path_in (get_or directories i d).now name) (Ok bytes)
    → FindsIn reads (texts_of (drop i directories)) name (Ok bytes)
found_here reads directories i d name bytes within read =
    let P : List (List ℕ) → Type 0 = λ rest. FindsIn reads rest name (Ok bytes) in
    subst P (sym (first_of_rest directories i d within)) (inl (bytes, refl, read))

pub missed_here : (reads : List ℕ → Read → Type 0) (directories : List (Bor (List ℕ))) (i : ℕ) (d : Bor (List ℕ))
    (name : List ℕ) (fault : Fault) (found : Read) → i < length directories
    → reads (path_in (get_or directories i d).now name) (Err (Failed fault))
    → FindsIn reads (texts_of (drop (i + 1) directories)) name found
    → FindsIn reads (texts_of (drop i directories)) name found
missed_here reads directories i d name fault found within read later =
    let P : List (List ℕ) → Type 0 = λ rest. FindsIn reads rest name found in
    subst P (sym (first_of_rest directories i d within)) (inr (inr (fault, read, later)))

-- a fault that nobody sees has no text
pub unseen_fault : Fault
unseen_fault = record {
  message = record { bytes = []; len = 0; is_truncated = false };
  causes = record { bytes = []; len = 0; is_truncated = false };
  left_out = 0;
}

-- what the directories have for a name that is no path
pub found_for : {E : Type 0} (reads : List ℕ → Read → Type 0) (directories : List (List ℕ)) (name : List ℕ)
    (r : Result (Option (Vec ℕ Global)) E) → ¬ Begins slash name
    → IfOk r (λ found. MatchOption found ((fault : Fault) → FindsIn reads directories name (Err (Failed fault)))
    (λ bytes. FindsIn reads directories name (Ok bytes)))
    → IfOk r (λ found. MatchOption found ((fault : Fault) × Finds reads directories name (Err (Failed fault)))
    (λ bytes. Finds reads directories name (Ok bytes)))
found_for reads directories name (Err e) bare h = h
found_for reads directories name (Ok None) bare h = (unseen_fault, inr (bare, h unseen_fault))
found_for reads directories name (Ok (Some bytes)) bare h = inr (bare, h)

-- and for one that is
pub read_for : {E : Type 0} (reads : List ℕ → Read → Type 0) (directories : List (List ℕ)) (name : List ℕ)
    (r : Result (Option (Vec ℕ Global)) E) → Begins slash name
    → IfOk r (λ found. MatchOption found ((fault : Fault) × reads name (Err (Failed fault)))
    (λ bytes. reads name (Ok bytes)))
    → IfOk r (λ found. MatchOption found ((fault : Fault) × Finds reads directories name (Err (Failed fault)))
    (λ bytes. Finds reads directories name (Ok bytes)))
read_for reads directories name (Err e) begins h = h
read_for reads directories name (Ok None) begins h = (h.0, inl (begins, h.1))
read_for reads directories name (Ok (Some bytes)) begins h = inl (begins, h)
