-- The items of a pattern from a position on, one after the other.
use Rattle.std.proofs.Common.{arith, refl, ◌≡◌, ◌≢◌, ◌∙◌, ap, [], ℕ, zero, suc, ◌∷◌, ◌<◌, ◌≤◌, length, ◌+◌, List, get_or, drop, Some, None}
use Rattle.std.proofs.lemmas.Bool.{ne_eqb, eq-eqb}
use Rattle.std.proofs.lemmas.List.{get_or-drop, drop-drop, drop_all}
use Rattle.std.proofs.Math.Seq.{drop-cons}
use Rattle.tz_format.specs.Conversions.{conversion_at, fraction_at}
use Rattle.tz_format.specs.Patterns.{Byte, Converted, Unknown, items_after, items_of}
use Rattle.tz_format.specs.declared.conversion.Conversion.{Conversion}

-- the items after some bytes are those of what follows
pub items_after_drop : (skipped : ℕ) (bytes : List ℕ) → items_after skipped bytes ≡ items_of (drop skipped bytes)
unfolding items_after
items_after_drop zero bytes = refl
items_after_drop (suc skipped) [] = refl
items_after_drop (suc skipped) (byte ∷ bytes) = items_after_drop skipped bytes

-- what follows a position, byte by byte
pub cut : (pattern : List ℕ) (position : ℕ) → position < length pattern
    → drop position pattern ≡ get_or pattern position 0 ∷ drop (position + 1) pattern
cut pattern position within =
    let next : position + 1 ≡ suc position = omega arith in
    rw next (drop-cons pattern position 0 within)

-- a conversion after a position is one at the beginning of what follows
fraction_after : (pattern : List ℕ) (position : ℕ) (i : ℕ)
    → fraction_at (drop position pattern) i ≡ fraction_at pattern (position + i)
unfolding fraction_at
fraction_after pattern position i =
    let next : position + (i + 1) ≡ position + i + 1 = omega arith in
    rw (get_or-drop position pattern i 0, get_or-drop position pattern (i + 1) 0, next) refl

pub conversion_after : (pattern : List ℕ) (position : ℕ)
    → conversion_at (drop position pattern) 0 ≡ conversion_at pattern position
unfolding conversion_at
conversion_after pattern position =
    let here : position + 0 ≡ position = omega arith in
    rw (
      get_or-drop position pattern 0 0,
      get_or-drop position pattern 1 0,
      fraction_after pattern position 0,
      fraction_after pattern position 1,
      here,
    ) refl

-- a byte that is no `%`
pub byte_item : (pattern : List ℕ) (position : ℕ) → position < length pattern → get_or pattern position 0 ≢ 37
    → items_of (drop position pattern) ≡ Byte (get_or pattern position 0) ∷ items_of (drop (position + 1) pattern)
unfolding items_after
byte_item pattern position within other =
    ap (items_after 0) (cut pattern position within) ∙ rw (ne_eqb (get_or pattern position 0) 37 other) refl

-- a `%` that spells no conversion
pub unknown_item : (pattern : List ℕ) (position : ℕ) → position < length pattern → get_or pattern position 0 ≡ 37
    → conversion_at pattern (position + 1) ≡ None → items_of (drop position pattern) ≡ Unknown ∷ []
unfolding items_after
unknown_item pattern position within percent none =
    ap (items_after 0) (cut pattern position within)
    ∙ rw (eq-eqb (get_or pattern position 0) 37 percent, conversion_after pattern (position + 1), none) refl

-- a `%` and the bytes that spell a conversion
pub converted_item : (pattern : List ℕ) (position : ℕ) (c : Conversion) (spelled : ℕ) → position < length pattern
    → get_or pattern position 0 ≡ 37 → conversion_at pattern (position + 1) ≡ Some (c, spelled)
    → items_of (drop position pattern) ≡ Converted c spelled ∷ items_of (drop (position + 1 + spelled) pattern)
unfolding items_after
converted_item pattern position c spelled within percent is =
    ap (items_after 0) (cut pattern position within)
    ∙ rw (eq-eqb (get_or pattern position 0) 37 percent, conversion_after pattern (position + 1), is)
    (ap (λ items. Converted c spelled ∷ items) (items_after_drop spelled (drop (position + 1) pattern)
    ∙ ap items_of (drop-drop spelled (position + 1) pattern)))

-- past the end there is none
pub no_item : (pattern : List ℕ) (position : ℕ) → length pattern ≤ position → items_of (drop position pattern) ≡ []
unfolding items_after
no_item pattern position past = ap (items_after 0) (drop_all position pattern past)
