-- Where a zero byte is found, a name ends there; where none is, no name ends.
use Rattle.tz_zone.proofs.Common.{◌≡◌, arith, ℕ, refl, sym, length, ◌∙◌, ◌<◌, ap, List, Some, ◌-◌, ◌≤◌, ◌+◌, Option, slice_get_within, None, false, true, Bool, get_or, cond, drop, slice_get-get_or, eqb-true, get_or_from_slice_get, take, HasName, eqb-false, fails_before_first, get_or-drop, length-drop, ltb, ltb-false, ltb-true, name_at, passes_at_first, position_from, position_or_len, ◌==◌}
use Rattle.std.proofs.lemmas.Iterator.Adapters.{position_from-zero}

get_or_at : (names : List ℕ) (i j : ℕ) → i ≡ j → get_or names j 0 ≡ 0 → get_or names i 0 ≡ 0
get_or_at names i j is at = ap (λ k. get_or names k 0) is ∙ at

-- what a position that was found says, or that none was
found : (b : Bool) (position n : ℕ) (o : Option ℕ) → cond b (Some position) None ≡ o → o ≡ Some n
    → (b ≡ true) × (position ≡ n)
found true position n o is some = (refl, cc)
found false position n o is some = absurd (cc (is, some))

not_found : (b : Bool) (position : ℕ) (o : Option ℕ) → cond b (Some position) None ≡ o → o ≡ None → b ≡ false
not_found true position o is none = absurd (cc (is, none))
not_found false position o is none = refl

pub name_there : (names : List ℕ) (index len : ℕ) → position_from (λ byte. byte == 0) 0 (drop index names) ≡ Some len
    → HasName names index × (len < length names - index) × (take len (drop index names) ≡ name_at names index)
unfolding name_at
name_there names index len some =
    let rest = drop index names in
    let position = position_or_len (λ byte. byte == 0) rest in
    let both = found (ltb position (length rest)) position len (position_from (λ byte. byte == 0) 0 rest)
    (position_from-zero (λ byte. byte == 0) rest) some in
    let inside : position < length rest = ltb-true position (length rest) both.0 in
    let is : position ≡ len = both.1 in
    let below : len < length names - index = omega (arith, length-drop index names) in
    let zero : get_or rest len 0 ≡ 0 = eqb-true (get_or rest len 0) 0
    (rw is at (passes_at_first (λ byte. byte == 0) rest 0 inside)) in
    let at : get_or names (index + len) 0 ≡ 0 = sym (get_or-drop index names len 0) ∙ zero in (
      (index + len, omega arith, slice_get-get_or names (index + len) 0 (omega arith) ∙ ap Some at),
      below,
      ap
          (λ n. take n rest) (sym is),
    )

pub no_name_there : (names : List ℕ) (index : ℕ) → position_from (λ byte. byte == 0) 0 (drop index names) ≡ None
    → ¬ HasName names index
no_name_there names index none = λ name.
    let rest = drop index names in
    let position = position_or_len (λ byte. byte == 0) rest in
    let beyond : length rest ≤ position = ltb-false position (length rest)
    (not_found (ltb position (length rest)) position (position_from (λ byte. byte == 0) 0 rest)
    (position_from-zero (λ byte. byte == 0) rest) none) in
    let long : length rest ≡ length names - index = length-drop index names in
    let end = name.0 in
    let below = slice_get_within names end 0 name.2 in
    let here : get_or rest (end - index) 0 ≡ 0 = get_or-drop index names (end - index) 0
    ∙ get_or_at names (index + (end - index)) end (omega arith) (get_or_from_slice_get names end 0 0 name.2) in
    eqb-false (get_or rest (end - index) 0) 0 (fails_before_first (λ byte. byte == 0) rest (end - index) 0
    (omega arith)) here
