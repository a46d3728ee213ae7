-- How far a pattern is measured.
use Rattle.std.proofs.Common.{arith, refl, ◌≡◌, ◌≢◌, ◌∙◌, ap, subst, ℕ, ◌<◌, ◌≤◌, length, ◌+◌, List, get_or, drop, min, Option, Some, None}
use Rattle.std.specs.Prelude.{option_map}
use Rattle.std.proofs.Math.Nat.{zero-add}
use Rattle.tz_format.specs.Conversions.{conversion_at}
use Rattle.tz_format.specs.Patterns.{items_of, first_unknown, width_of}
use Rattle.tz_format.specs.Widths.{conversion_width}
use Rattle.tz_format.specs.declared.conversion.Conversion.{Conversion}
use Rattle.tz_format.proofs.Items.{byte_item, unknown_item, converted_item, no_item}

-- the first conversion that is none is the first of what follows a position, and the widths before
-- and after it make the pattern's
pub record IsMeasuredUpTo (pattern : List ℕ) (position width : ℕ) : Type 0 where
  pub within : position ≤ length pattern
  pub bound : width ≤ 129
  pub unknown : first_unknown (items_of pattern)
      ≡ option_map (λ n. n + position) (first_unknown (items_of (drop position pattern)))
  pub width_is : min (width + width_of (drop position pattern)) 129 ≡ min (width_of pattern) 129

pub nothing_measured : (pattern : List ℕ) → IsMeasuredUpTo pattern 0 0
nothing_measured pattern = record {
  within = omega arith;
  bound = omega arith;
  unknown = same_plus_zero (first_unknown (items_of pattern));
  width_is = ap (λ n. min n 129) (zero-add (width_of pattern));
}
  where
    same_plus_zero : (o : Option ℕ) → o ≡ option_map (λ n. n + 0) o
    same_plus_zero None = refl
    same_plus_zero (Some n) = ap Some (omega arith)

moved_twice : (o : Option ℕ) (a b : ℕ) → option_map (λ n. n + a) (option_map (λ n. n + b) o)
    ≡ option_map (λ n. n + (a + b)) o
moved_twice None a b = refl
moved_twice (Some n) a b = ap Some (omega arith)

widened : (width more rest all : ℕ) → min (width + (more + rest)) 129 ≡ all
    → min (min (width + more) 129 + rest) 129 ≡ all
widened width more rest all is = omega (arith, is)

pub byte_measured : (pattern : List ℕ) (position width : ℕ) → IsMeasuredUpTo pattern position width
    → position < length pattern → get_or pattern position 0 ≢ 37
    → IsMeasuredUpTo pattern (position + 1) (min (width + 1) 129)
byte_measured pattern position width h within other =
    let item = byte_item pattern position within other in
    let unknown = rw item at h.unknown in
    let width_is = rw item at h.width_is in
    record {
      within = omega arith;
      bound = omega arith;
      unknown = unknown ∙ moved_twice _ position 1;
      width_is = widened width 1 (width_of (drop (position + 1) pattern)) _ width_is;
    }

pub conversion_measured : (pattern : List ℕ) (position width : ℕ) (c : Conversion) (spelled : ℕ)
    → IsMeasuredUpTo pattern position width → position < length pattern → get_or pattern position 0 ≡ 37
    → conversion_at pattern (position + 1) ≡ Some (c, spelled) → position + 1 + spelled ≤ length pattern
    → IsMeasuredUpTo pattern (position + (1 + spelled)) (min (width + conversion_width c) 129)
conversion_measured pattern position width c spelled h within percent is inside =
    let item = converted_item pattern position c spelled within percent is in
    let unknown = rw item at h.unknown in
    let width_is = rw item at h.width_is in
    let places : position + (spelled + 1) ≡ position + (1 + spelled) = omega arith in
    let rest : drop (position + 1 + spelled) pattern ≡ drop (position + (1 + spelled)) pattern =
    ap (λ n. drop n pattern) (omega arith) in
    record {
      within = omega (arith, inside);
      bound = omega arith;
      unknown = unknown ∙ moved_twice _ position (spelled + 1)
          ∙ ap (λ k. option_map (λ n. n + k) (first_unknown (items_of (drop (position + 1 + spelled) pattern)))) places
          ∙ ap (λ bytes. option_map (λ n. n + (position + (1 + spelled))) (first_unknown (items_of bytes))) rest;
      width_is = subst (λ (bytes : List ℕ). min (min (width + conversion_width c) 129 + width_of bytes) 129
          ≡ min (width_of pattern) 129) rest
          (widened width (conversion_width c) (width_of (drop (position + 1 + spelled) pattern)) _ width_is);
    }

pub unknown_found : (pattern : List ℕ) (position width : ℕ) → IsMeasuredUpTo pattern position width
    → position < length pattern → get_or pattern position 0 ≡ 37 → conversion_at pattern (position + 1) ≡ None
    → first_unknown (items_of pattern) ≡ Some position
unknown_found pattern position width h within percent none =
    let unknown = rw (unknown_item pattern position within percent none) at h.unknown in
    unknown ∙ ap Some (zero-add position)

pub all_measured : (pattern : List ℕ) (position width : ℕ) → IsMeasuredUpTo pattern position width
    → length pattern ≤ position → (first_unknown (items_of pattern) ≡ None) × (width ≡ min (width_of pattern) 129)
all_measured pattern position width h past =
    let unknown = rw (no_item pattern position past) at h.unknown in
    let width_is = rw (no_item pattern position past) at h.width_is in
    (unknown, omega (arith, width_is, h.bound))
