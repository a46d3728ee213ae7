-- What the loops over a table give: facts at all indexes, from facts at the indexes so far.
use Rattle.tz_zone.proofs.Common.{◌≡◌, arith, to_z-of_z, ℕ, ints, w64, refl, sym, length, ℤ, ◌∙◌, ◌<◌, List, Some, ◌<ℤ◌, ◌≤◌, ◌+◌, SFits, LeapSecond, slice_get, slice_get_within, slice_get_read, to_z, false, same_Some, of_z, AreLeapSeconds, true, Bool, Transition, get_or, MatchBool, FollowsAt, HasTypeAtIndex, RisesAtIndex, MatchBool-lt_z, MayBeFirst}
use Rattle.std.specs.Int.Signed.{lt_z}

-- what is read at an index is its item
pub item_read : {X : Type 0} (xs : List X) (i : ℕ) (x y : X) → i < length xs → x ≡ get_or xs i x
    → slice_get xs i ≡ Some y → x ≡ y
item_read xs i x y within is at = same_Some x y (sym (slice_get_read xs (length xs) i x refl within is) ∙ at)

-- what is tested of the items read at an index and after it holds of those that stand there
pub pair_test : {X : Type 0} (xs : List X) (i : ℕ) (a b : X) (R : X → X → Type 0) (r : Bool) → i + 1 < length xs
    → a ≡ get_or xs i a → b ≡ get_or xs (i + 1) b → MatchBool r (R a b) (¬ R a b)
    → MatchBool r ((x y : X) → slice_get xs i ≡ Some x → slice_get xs (i + 1) ≡ Some y
    → R x y) (¬ ((x y : X) → slice_get xs i ≡ Some x → slice_get xs (i + 1) ≡ Some y → R x y))
pair_test xs i a b R true within a_is b_is h =
    λ x y at_x at_y. rw (
      sym (item_read xs i a x (omega arith) a_is at_x),
      sym (item_read xs (i + 1) b y within b_is at_y),
    ) h
pair_test xs i a b R false within a_is b_is h =
    λ all. h (all a b (slice_get_read xs (length xs) i a refl (omega arith) a_is)
    (slice_get_read xs (length xs) (i + 1) b refl within b_is))

-- the test of two numbers of 64 bits
pub less_test : (a b x y : ℤ) → SFits w64 x → SFits w64 y → x ≡ a → y ≡ b
    → MatchBool (lt_z (to_z w64 (of_z w64 x)) (to_z w64 (of_z w64 y))) (a <ℤ b) (¬ (a <ℤ b))
less_test a b x y fits_x fits_y x_is y_is = rw (to_z-of_z w64 x fits_x, to_z-of_z w64 y fits_y, x_is, y_is)
    (MatchBool-lt_z a b (λ less. less) (λ from less. absurd (omega (arith, ints, from, less))))

pub are_from_loop : (leaps : List LeapSecond) (n : ℕ) (leap : LeapSecond) → 1 ≤ length leaps
    → leap ≡ get_or leaps 0 leap → MayBeFirst leap → length leaps ≤ n
    → ((index : ℕ) → index < n → FollowsAt leaps index) → AreLeapSeconds leaps
are_from_loop leaps n leap some leap_is first all follow = record {
  first = λ l at. rw (sym (item_read leaps 0 leap l some leap_is at)) first;
  apart = λ i l next at_l at_next. follow i (omega (arith, all, slice_get_within leaps i l at_l)) l next at_l at_next;
}

-- no transition stands past the last index
pub transitions_from_loop : (transitions : List Transition) (types n : ℕ) → length transitions ≤ n
    → ((index : ℕ) → index < n → HasTypeAtIndex transitions types index × RisesAtIndex transitions index) → (index : ℕ)
    → HasTypeAtIndex transitions types index × RisesAtIndex transitions index
transitions_from_loop transitions types n all so_far index = (
  λ change at. (so_far index (omega (arith, all, slice_get_within transitions index change at))).0 change at,
  λ change next at at_next. (so_far index (omega (arith, all, slice_get_within transitions index change at))).1 change
      next at at_next,
)
