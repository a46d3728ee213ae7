-- Grammars of texts. A grammar is read at the front of bytes: it says which value the bytes have
-- there and which bytes follow, and, if there is none, which part is the first that is missing and
-- which bytes stand in its place.
use Rattle.std.specs.Prelude.{◌≡◌, ℕ, ◌⊎◌, List}
use Rattle.tz.specs.declared.parse.DateTimePart.{DateTimePart}

infixr 3 ◌▸◌
pub record Grammar (A : Type 0) : Type 1 where
  pub reads : List ℕ → A → List ℕ → Type 0
  pub misses : List ℕ → DateTimePart → List ℕ → Type 0

-- one part: it is missing if bytes do not begin with it
abbrev pub one : {A : Type 0} → DateTimePart → (List ℕ → A → List ℕ → Type 0) → Grammar A
one {A} part begins = record {
  reads = begins;
  misses = λ text missing rest. (missing ≡ part) × (rest ≡ text) × ((value : A) (after : List ℕ)
      → ¬ begins text value after);
}

-- a grammar, and what follows it, which can depend on its value
abbrev pub ◌▸◌ : {A B : Type 0} → Grammar A → (A → Grammar B) → Grammar B
◌▸◌ {A} first next = record {
  reads = λ text value rest. (v : A) × (after : List ℕ) × first.reads text v after
      × (next v).reads after value rest;
  misses = λ text missing rest. first.misses text missing rest
      ⊎ ((v : A) × (after : List ℕ) × first.reads text v after
      × (next v).misses after missing rest);
}

-- no bytes at all, with a value
abbrev pub done : {A : Type 0} → A → Grammar A
done v = record {
  reads = λ text value rest. (value ≡ v) × (rest ≡ text);
  misses = λ text missing rest. ⊥;
}
