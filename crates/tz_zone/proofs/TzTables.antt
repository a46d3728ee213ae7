-- A table of one more record is the table and that record.
use Rattle.tz_zone.proofs.Common.{◌≡◌, ℕ, refl, List, [], ◌+◌, ◌∷◌, ◌++◌, type_at, Block, Width, leaps_of, transitions_of, types_of, change_at, leap_at, zero-add}
use Rattle.std.proofs.lemmas.List.FromFn.{map-range_with_len_more}

pub transitions_none : (w : Width) (block : Block) → transitions_of w block 0 ≡ []
unfolding transitions_of
transitions_none w block = refl

pub transitions_more : (w : Width) (block : Block) (i : ℕ)
    → transitions_of w block (i + 1) ≡ transitions_of w block i ++ change_at w block i ∷ []
unfolding transitions_of
transitions_more w block i = map-range_with_len_more (change_at w block) 0 i i (zero-add i)

pub leaps_none : (w : Width) (block : Block) → leaps_of w block 0 ≡ []
unfolding leaps_of
leaps_none w block = refl

pub leaps_more : (w : Width) (block : Block) (i : ℕ)
    → leaps_of w block (i + 1) ≡ leaps_of w block i ++ leap_at w block i ∷ []
unfolding leaps_of
leaps_more w block i = map-range_with_len_more (leap_at w block) 0 i i (zero-add i)

pub types_none : (block : Block) → types_of block 0 ≡ []
unfolding types_of
types_none block = refl

pub types_more : (block : Block) (i : ℕ) → types_of block (i + 1) ≡ types_of block i ++ type_at block i ∷ []
unfolding types_of
types_more block i = map-range_with_len_more (type_at block) 0 i i (zero-add i)

-- a table so far, and the record that is pushed to it
pub pushed : {X : Type 0} (table : ℕ → List X) (i : ℕ) (items more : List X) (x y : X) → items ≡ table i
    → more ≡ items ++ x ∷ [] → x ≡ y → table (i + 1) ≡ table i ++ y ∷ [] → more ≡ table (i + 1)
pushed table i items more x y so_far push is next = rw (push, so_far, is, next)

-- For `grind`: the tables of none and of one more.
pub ruleset tables = (transitions_none, transitions_more, leaps_none, leaps_more, types_none, types_more)
