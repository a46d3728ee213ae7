-- What the settings answer, from what was found.
use Rattle.tz_zone.proofs.Common.{◌≡◌, ℕ, sym, inr, inl, subst, List, Zone, ◌⊎◌, Err, Ok, Result, MatchResult, Read, alloc_error, Global, Tz, Vec, Answer, IsFileAnswer, Opens, vec_items}
use Rattle.tz_base.specs.declared.error.Error.{Error}
use Rattle.tz_base.specs.declared.error.ReadFault.TheVariants.{Memory}
use Rattle.tz_base.specs.declared.error.TzError.TheVariants.{Memory as NoMemory}

-- an answer of this kind, or an allocation failure
abbrev pub Answers : {T : Type 0} → (T → Zone) → Result T Error → (Answer → Type 0) → Type 0
Answers view r P = MatchResult r (λ zone. P (Ok (view zone))) (λ e. (e ≡ Tz (NoMemory alloc_error)) ⊎ P (Err e))

pub answers_too : {T : Type 0} (view : T → Zone) (r : Result T Error) (P Q : Answer → Type 0) → Answers view r P
    → ((answer : Answer) → P answer → Q answer) → Answers view r Q
answers_too view (Ok zone) P Q h wider = wider (Ok (view zone)) h
answers_too view (Err e) P Q h wider = elim h [ inl memory ↦ inl memory | inr p ↦ inr (wider (Err e) p) ]

without_memory : {T : Type 0} (view : T → Zone) (r : Result T Error) (Q : Answer → Type 0)
    → Answers view r (Opens (Err (Memory alloc_error))) → Answers view r Q
without_memory view (Ok zone) Q h = let clash : Ok (view zone) ≡ Err (Tz (NoMemory alloc_error)) = h in cc
without_memory view (Err e) Q h = elim h [
  | inl memory ↦ inl memory
  | inr p ↦ (let refused : Answer = Err e in
      let same : refused ≡ Err (Tz (NoMemory alloc_error)) = p in inl cc)
]

-- what was found is opened, where an allocation failure may stand for it
pub opened : {T : Type 0} (view : T → Zone) (found : Read) (r : Result T Error) (Found : Read → Type 0) (Q : Answer
    → Type 0) → (found ≡ Err (Memory alloc_error)) ⊎ Found found
    → Answers view r (Opens found) → ((answer : Answer) → Found found → Opens found answer → Q answer)
    → Answers view r Q
opened view found r Found Q was h wider = elim was [
  | inl memory ↦ (let P : Read → Type 0 = λ f. Answers view r (Opens f) in without_memory view r Q (subst P memory h))
  | inr is ↦ answers_too view r (Opens found) Q h (λ answer. wider answer is)
]

-- the zone of bytes that were found
pub opened_bytes : {T : Type 0} (view : T → Zone) (r : Result T Error) (found : Read) (bytes : Vec ℕ Global)
    (b : List ℕ) → found ≡ Ok bytes → b ≡ vec_items bytes → Answers view r (IsFileAnswer b)
    → Answers view r (Opens found)
opened_bytes view r found bytes b was same h =
    let P : Read → Type 0 = λ f. Answers view r (Opens f) in
    let B : List ℕ → Type 0 = λ x. Answers view r (IsFileAnswer x) in
    subst P (sym was) (subst B same h)
