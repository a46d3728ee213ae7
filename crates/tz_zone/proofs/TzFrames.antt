-- What is read of a file, by the version of its first header; and its footer.
use Rattle.tz_zone.proofs.Common.{◌≡◌, ℕ, refl, List, Some, None, eqb, drop, after, part_of, footer_of, ne_eqb, part_with, slice_index, trimmed, IsFirstVersion, IsTrimAscii, cond-false, cond-true, eq-eqb, is_ascii_whitespace, prefix_len, trimmed_start}
use Rattle.std.specs.Int.{w32, w64}
use Rattle.std.proofs.lemmas.Str.Ascii.{trim_ascii_is}

-- in version 1 the first unit is read, and there is no footer
pub part_of_first : (bytes : List ℕ) → IsFirstVersion bytes → part_of bytes ≡ part_with w32 bytes
unfolding part_of
part_of_first bytes version = cond-true (eqb (slice_index bytes 4) 0) (part_with w32 bytes)
    (part_with w64 (after w32 bytes)) (eq-eqb (slice_index bytes 4) 0 version)

pub footer_of_first : (bytes : List ℕ) → IsFirstVersion bytes → footer_of bytes ≡ None
unfolding footer_of
footer_of_first bytes version = cond-true (eqb (slice_index bytes 4) 0) None (Some (after w64 (after w32 bytes)))
    (eq-eqb (slice_index bytes 4) 0 version)

-- in later versions the second one, and what stands after it
pub part_of_later : (bytes : List ℕ) → ¬ IsFirstVersion bytes → part_of bytes ≡ part_with w64 (after w32 bytes)
unfolding part_of
part_of_later bytes version = cond-false (eqb (slice_index bytes 4) 0) (part_with w32 bytes)
    (part_with w64 (after w32 bytes)) (ne_eqb (slice_index bytes 4) 0 version)

pub footer_of_later : (bytes : List ℕ) → ¬ IsFirstVersion bytes → footer_of bytes ≡ Some (after w64 (after w32 bytes))
unfolding footer_of
footer_of_later bytes version = cond-false (eqb (slice_index bytes 4) 0) None (Some (after w64 (after w32 bytes)))
    (ne_eqb (slice_index bytes 4) 0 version)

-- what std trims is trimmed
pub trim_is : (bytes text : List ℕ) → IsTrimAscii bytes text → text ≡ trimmed bytes
unfolding trimmed trimmed_start
trim_is bytes text is = trim_ascii_is bytes text (drop (prefix_len is_ascii_whitespace bytes) bytes) refl is
