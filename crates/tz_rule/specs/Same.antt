-- Equality of local time types, as a test of all their parts.
use Rattle.std.specs.Prelude.{◌≡◌, ℕ, ◌&&◌, Bool, true, false, List, bytes_eq, Option, Some, None}
use Rattle.std.specs.Bool.{beq}
use Rattle.std.specs.Option.{option_eq}
use Rattle.std.specs.Ordering.{int_eq}
use Rattle.std.specs.Cmp.{IsEquivalence}
use Rattle.std.proofs.Common.{refl, sym, ap, Decides}
use Rattle.std.proofs.lemmas.Bool.{false≢true}
use Rattle.std.proofs.lemmas.Bool.Decides.{same_from_decides, Decides-int_eq, Decides-like, Decides-and}
use Rattle.std.proofs.lemmas.Slice.Eq.{bytes_eq-Decides}
use Rattle.tz_rule.specs.LocalTimeType.{LocalTimeType, type_of}

abbrev pub same_type : LocalTimeType → LocalTimeType → Bool
same_type a b = int_eq a.ut_offset b.ut_offset &&
    (beq a.is_dst b.is_dst && option_eq bytes_eq a.designation b.designation)

-- a test of equality is an equivalence
pub IsEquivalence-from_equality : {A : Type 0} (E : A → A → Bool)
    → ((a b : A) → Decides (E a b) (a ≡ b)) → IsEquivalence E
IsEquivalence-from_equality E d = record {
  refl = λ x. (d x x).1 refl;
  symm = λ x y. same_from_decides (E x y) (E y x) (d x y)
      (λ h. sym ((d y x).0 h), λ e. (d y x).1 (sym e));
  congr = λ x y z h. ap (λ w. E w z) ((d x y).0 h);
}

pub Decides-beq : (x y : Bool) → Decides (beq x y) (x ≡ y)
Decides-beq true true = (λ _. refl, λ _. refl)
Decides-beq false false = (λ _. refl, λ _. refl)
Decides-beq true false = (λ h. absurd (false≢true h), λ e. sym e)
Decides-beq false true = (λ h. absurd (false≢true h), λ e. e)

pub Decides-name : (x y : Option (List ℕ)) → Decides (option_eq bytes_eq x y) (x ≡ y)
Decides-name None None = (λ _. refl, λ _. refl)
Decides-name None (Some y) = (λ h. absurd (false≢true h), λ e. cc)
Decides-name (Some x) None = (λ h. absurd (false≢true h), λ e. cc)
Decides-name (Some x) (Some y) = Decides-like (bytes_eq x y) (ap Some) (λ e. cc)
    (bytes_eq-Decides x y)

-- equal types
pub Decides-same_type : (a b : LocalTimeType) → Decides (same_type a b) (a ≡ b)
Decides-same_type a b =
    Decides-like (same_type a b)
    (λ h. same_parts h.0 h.1.0 h.1.1)
    (λ e. (ap (λ t. t.ut_offset) e, (ap (λ t. t.is_dst) e, ap (λ t. t.designation) e)))
    (Decides-and (int_eq a.ut_offset b.ut_offset)
    (beq a.is_dst b.is_dst && option_eq bytes_eq a.designation b.designation)
    (Decides-int_eq a.ut_offset b.ut_offset)
    (Decides-and (beq a.is_dst b.is_dst) (option_eq bytes_eq a.designation b.designation)
    (Decides-beq a.is_dst b.is_dst) (Decides-name a.designation b.designation)))
  where
    same_parts : a.ut_offset ≡ b.ut_offset → a.is_dst ≡ b.is_dst → a.designation ≡ b.designation
        → a ≡ b
    same_parts o d n = let same : type_of a.ut_offset a.is_dst a.designation
        ≡ type_of b.ut_offset b.is_dst b.designation = cc in same
