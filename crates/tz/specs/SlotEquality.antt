-- Slots are compared by what they hold, if it is comparable both ways round and along chains.
use Rattle.std.specs.Prelude.{◌≡◌, Bool, true, Option, Some, None}
use Rattle.std.specs.Cmp.{IsPartialEquivalence}
use Rattle.std.specs.Option.{option_eq}
use Rattle.std.proofs.Common.{refl}

module _ {K : Type 0} {E : K → K → Bool} (laws : IsPartialEquivalence E) where
  flip : (x y : Option K) → option_eq E x y ≡ option_eq E y x
  flip None None = refl
  flip None (Some y) = refl
  flip (Some x) None = refl
  flip (Some x) (Some y) = laws.symm x y

  chain : (x y z : Option K) → option_eq E x y ≡ true → option_eq E y z ≡ true
      → option_eq E x z ≡ true
  chain None None z same next = next
  chain None (Some y) z same next = absurd cc
  chain (Some x) None z same next = absurd cc
  chain (Some x) (Some y) None same next = next
  chain (Some x) (Some y) (Some z) same next = laws.trans x y z same next

  pub options_per : IsPartialEquivalence (option_eq E)
  options_per = record { symm = flip; trans = chain }
