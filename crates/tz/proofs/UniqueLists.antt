-- What is found of a clock is one list, of which each entry can be made or not.
use Rattle.tz.proofs.Common.{arith, refl, ◌≡◌, subst, ◌∙◌, ints, inr, sym, inl, [], ap, ◌∷◌, List, ℤ, Fields, suc, zero, ◌<ℤ◌, ◌⊎◌, FoundDateTimeKind, Clock, EachCanBeMade, IsFound, Contains, IsFoundBy, All, All-contains, instant_of, AllPairs, CanBeMade}

module _ {X : Type 0} (at : X → ℤ) where
  -- each of the list is at an earlier position than those after it
  abbrev Rises : List X → Type 0
  Rises xs = AllPairs (λ x y. at x <ℤ at y) xs

  abbrev IsWithin : List X → List X → Type 0
  IsWithin xs ys = (x : X) → Contains xs x → Contains ys x

  first_below : (x : X) (xs : List X) → Rises (x ∷ xs) → All (λ y. at x <ℤ at y) xs
  first_below x xs rises k d within = rises zero (suc k) d (omega arith) (omega arith)

  rest_rises : (x : X) (xs : List X) → Rises (x ∷ xs) → Rises xs
  rest_rises x xs rises i j d less within = rises (suc i) (suc j) d (omega arith) (omega arith)

  contains_first : (x : X) (xs : List X) → Contains (x ∷ xs) x
  contains_first x xs = (0, omega arith, refl)

  contains_more : (x : X) (xs : List X) (y : X) → Contains xs y → Contains (x ∷ xs) y
  contains_more x xs y (k, within, is) = (suc k, omega (arith, within), is)

  first_or_more : (x : X) (xs : List X) (y : X) → Contains (x ∷ xs) y → (x ≡ y) ⊎ Contains xs y
  first_or_more x xs y (zero, within, is) = inl is
  first_or_more x xs y (suc k, within, is) = inr (k, omega (arith, within), is)

  nothing_contains : (x : X) → ¬ Contains [] x
  nothing_contains x (k, within, is) = omega (arith, within)

  -- the lists begin alike
  first_same : (x y : X) (xs ys : List X) → Rises (x ∷ xs) → Rises (y ∷ ys) → Contains (y ∷ ys) x → Contains (x ∷ xs) y
      → x ≡ y
  first_same x y xs ys rises rises' has has' = both (first_or_more y ys x has) (first_or_more x xs y has')
    where
      both : (y ≡ x) ⊎ Contains ys x → (x ≡ y) ⊎ Contains xs y → x ≡ y
      both (inl same) other = sym same
      both (inr later) (inl same) = same
      both (inr later) (inr later') =
          absurd (omega (
            arith,
            ints,
            All-contains (λ z. at y <ℤ at z) ys x (first_below y ys rises') later,
            All-contains
                (λ z. at x <ℤ at z) xs y (first_below x xs rises) later',
          ))

  -- what comes after the first is no first one
  rest_within : (x : X) (xs ys : List X) → Rises (x ∷ xs) → IsWithin (x ∷ xs) (x ∷ ys) → IsWithin xs ys
  rest_within x xs ys rises within y has = other (first_or_more x ys y (within y (contains_more x xs y has)))
    where
      other : (x ≡ y) ⊎ Contains ys y → Contains ys y
      other (inl same) =
          absurd (omega (arith, ints, All-contains (λ z. at x <ℤ at z) xs y (first_below x xs rises) has, ap at same))
      other (inr later) = later

  -- rising lists of the same things are the same
  pub rising_unique : (xs ys : List X) → Rises xs → Rises ys → IsWithin xs ys → IsWithin ys xs → xs ≡ ys
  rising_unique [] [] rises rises' within within' = refl
  rising_unique [] (y ∷ ys) rises rises' within within' = absurd (nothing_contains y (within' y (contains_first y ys)))
  rising_unique (x ∷ xs) [] rises rises' within within' = absurd (nothing_contains x (within x (contains_first x xs)))
  rising_unique (x ∷ xs) (y ∷ ys) rises rises' within within' =
      let same : y ≡ x = sym (first_same x y xs ys rises rises' (within x (contains_first x xs))
      (within' y (contains_first y ys))) in
      let rises-same = subst (λ z. Rises (z ∷ ys)) same rises' in
      let within-same = subst (λ z. IsWithin (x ∷ xs) (z ∷ ys)) same within in
      let within-same' = subst (λ z. IsWithin (z ∷ ys) (x ∷ xs)) same within' in
      let more = rising_unique xs ys (rest_rises x xs rises) (rest_rises x ys rises-same)
      (rest_within x xs ys rises within-same) (rest_within x ys xs rises-same within-same') in
      ap (λ zs. x ∷ zs) more ∙ ap (λ z. z ∷ ys) (sym same)

-- if each entry of the list can be made, each entry can
pub each_from_list : (clock : Clock) (f : Fields) (found : List FoundDateTimeKind) → IsFound clock f found
    → All CanBeMade found → EachCanBeMade clock f
each_from_list clock f found is made e by = All-contains CanBeMade found e made (is.complete e by)

-- two lists of all that is found are the same
pub found_unique : (clock : Clock) (f : Fields) (found others : List FoundDateTimeKind) → IsFound clock f found
    → IsFound clock f others → found ≡ others
found_unique clock f found others is is' =
    rising_unique instant_of found others is.in_order is'.in_order
    (λ e has. is'.complete e (All-contains (IsFoundBy clock f) found e is.sound has))
    (λ e has. is.complete e (All-contains (IsFoundBy clock f) others e is'.sound has))
