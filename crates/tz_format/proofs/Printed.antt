-- How far a pattern is printed.
use Rattle.std.proofs.Common.{arith, refl, ◌≡◌, ◌≢◌, ◌∙◌, ap, sym, subst, [], ℕ, suc, ◌∷◌, ◌<◌, ◌≤◌, length, ◌+◌, ◌-◌, ◌++◌, List, get_or, drop, take, lit<, Option, Some, None, append_assoc, append-nil, length-append}
use Rattle.std.specs.Prelude.{IsUtf8, option_map, codes}
use Rattle.std.proofs.lemmas.List.{get_or-drop, get_or-append-add, drop-drop, drop_all, length-drop}
use Rattle.std.proofs.lemmas.Str.{IsUtf8-take, IsUtf8-drop, IsUtf8-append, IsUtf8-from_ascii, IsCharBoundary-before_ascii, IsCharBoundary-after_ascii}
use Rattle.std.proofs.Math.Seq.{drop-append_seam, take-append_seam}
use Rattle.std.proofs.Math.Nat.{add-zero}
use Rattle.tz.specs.PrintedText.{two_digits}
use Rattle.tz_format.specs.Conversions.{conversion_at, letter_conversion}
use Rattle.tz_format.specs.Patterns.{items_of, first_unknown, text_of, width_of}
use Rattle.tz_format.specs.Shown.{Shown, IsShown}
use Rattle.tz_format.specs.Texts.{conversion_text}
use Rattle.tz_format.specs.Widths.{conversion_width}
use Rattle.tz_format.specs.declared.conversion.Conversion.{Conversion}
use Rattle.tz_format.specs.declared.conversion.Conversion.TheVariants.{Hour, Minute, Second}
use Rattle.tz_format.proofs.ConversionBytes.{conversion_ascii}
use Rattle.tz_format.proofs.Items.{cut, byte_item, unknown_item, converted_item, no_item, conversion_after}

-- the line has what the pattern prints up to a position, and room for the rest; it and what is left
-- of the pattern are a text
pub record IsPrintedUpTo (pattern : List ℕ) (s : Shown) (position : ℕ) (line : List ℕ) : Type 0 where
  pub within : position ≤ length pattern
  pub known : first_unknown (items_of (drop position pattern)) ≡ None
  pub room : length line + width_of (drop position pattern) ≤ 128
  pub prints : line ++ text_of (drop position pattern) s ≡ text_of pattern s
  pub utf8 : IsUtf8 (line ++ drop position pattern)

-- a position that is none is none of the rest
none_left : {A B : Type 0} (f : A → B) (o : Option A) → option_map f o ≡ None → o ≡ None
none_left f None none = refl
none_left f (Some x) none = absurd (cc none)

pub nothing_printed : (pattern : List ℕ) (s : Shown) → first_unknown (items_of pattern) ≡ None
    → width_of pattern ≤ 128 → IsUtf8 pattern → IsPrintedUpTo pattern s 0 []
nothing_printed pattern s known fits utf8 =
    record { within = omega arith; known = known; room = omega (arith, fits); prints = refl; utf8 = utf8 }

pub byte_fits : (pattern : List ℕ) (s : Shown) (position : ℕ) (line : List ℕ) → IsPrintedUpTo pattern s position line
    → position < length pattern → get_or pattern position 0 ≢ 37 → length line + 1 ≤ 128
byte_fits pattern s position line h within other =
    let room = rw (byte_item pattern position within other) at h.room in omega (arith, room)

pub byte_printed : (pattern : List ℕ) (s : Shown) (position : ℕ) (line : List ℕ) → IsPrintedUpTo pattern s position line
    → position < length pattern → get_or pattern position 0 ≢ 37
    → IsPrintedUpTo pattern s (position + 1) (line ++ get_or pattern position 0 ∷ [])
byte_printed pattern s position line h within other =
    let byte = get_or pattern position 0 in
    let item = byte_item pattern position within other in
    let known = rw item at h.known in
    let room = rw item at h.room in
    let prints = rw item at h.prints in
    record {
      within = omega arith;
      known = none_left _ _ known;
      room = omega (arith, room, length-append line (byte ∷ []));
      prints = append_assoc line (byte ∷ []) _ ∙ prints;
      utf8 = subst IsUtf8 (ap (λ rest. line ++ rest) (cut pattern position within)
          ∙ sym (append_assoc line (byte ∷ []) (drop (position + 1) pattern))) h.utf8;
    }

pub none_unknown : (pattern : List ℕ) (s : Shown) (position : ℕ) (line : List ℕ) → IsPrintedUpTo pattern s position line
    → position < length pattern → get_or pattern position 0 ≡ 37 → conversion_at pattern (position + 1) ≡ None → ⊥
none_unknown pattern s position line h within percent none =
    let known = rw (unknown_item pattern position within percent none) at h.known in absurd (cc known)

pub conversion_fits : (pattern : List ℕ) (s : Shown) (position : ℕ) (line : List ℕ) (c : Conversion) (spelled : ℕ)
    → IsPrintedUpTo pattern s position line → position < length pattern → get_or pattern position 0 ≡ 37
    → conversion_at pattern (position + 1) ≡ Some (c, spelled) → length line + conversion_width c ≤ 128
conversion_fits pattern s position line c spelled h within percent is =
    let room = rw (converted_item pattern position c spelled within percent is) at h.room in omega (arith, room)

-- bytes between two texts, of which the first and the last are ASCII, leave texts
texts_around : (line rest : List ℕ) (count : ℕ) → IsUtf8 (line ++ rest) → count < length rest → get_or rest 0 0 < 128
    → get_or rest count 0 < 128 → IsUtf8 line × IsUtf8 (drop (count + 1) rest)
texts_around line rest count utf8 within first last =
    let all = line ++ rest in
    let len = length-append line rest in
    let at_line : get_or all (length line) 0 ≡ get_or rest 0 0 =
    ap (λ n. get_or all n 0) (sym (add-zero (length line))) ∙ get_or-append-add line rest 0 0 in
    let at_count : get_or all (length line + count) 0 ≡ get_or rest count 0 =
    get_or-append-add line rest count 0 in
    let front : IsUtf8 (take (length line) all) =
    IsUtf8-take all (length line) utf8 (IsCharBoundary-before_ascii all (length line) (omega (arith, len, within))
    (omega (arith, at_line, first))) in
    let back : IsUtf8 (drop (length line + count + 1) all) =
    IsUtf8-drop all (length line + count + 1) utf8 (IsCharBoundary-after_ascii all (length line + count) utf8
    (omega (arith, len, within)) (omega (arith, at_count, last))) in
    let places : length line + count + 1 ≡ length line + (count + 1) = omega arith in (
      subst IsUtf8 (take-append_seam line rest) front,
      subst IsUtf8 (ap (λ n. drop n all) places ∙ sym (drop-drop (count + 1) (length line) all)
          ∙ ap (drop (count + 1)) (drop-append_seam line rest)) back,
    )

pub conversion_printed : (pattern : List ℕ) (s : Shown) (position : ℕ) (line : List ℕ) (c : Conversion) (spelled : ℕ)
    → IsPrintedUpTo pattern s position line → position < length pattern → get_or pattern position 0 ≡ 37
    → conversion_at pattern (position + 1) ≡ Some (c, spelled)
    → 1 ≤ spelled → position + 1 + spelled ≤ length pattern → get_or pattern (position + 1 + spelled - 1) 0 < 128
    → IsShown s → length (conversion_text s c) ≤ conversion_width c
    → IsPrintedUpTo pattern s (position + 1 + spelled) (line ++ conversion_text s c)
conversion_printed pattern s position line c spelled h within percent is some inside last shown short =
    let item = converted_item pattern position c spelled within percent is in
    let text = conversion_text s c in
    let known = rw item at h.known in
    let room = rw item at h.room in
    let prints = rw item at h.prints in
    let ends : get_or pattern (position + spelled) 0 < 128 =
    (let same : position + 1 + spelled - 1 ≡ position + spelled = omega arith in rw same at last) in
    let around = texts_around line (drop position pattern) spelled h.utf8
    (omega (arith, length-drop position pattern, within, inside))
    (subst (λ byte. byte < 128) (sym (get_or-drop position pattern 0 0
    ∙ ap (λ n. get_or pattern n 0) (add-zero position) ∙ percent)) (lit< tt))
    (subst (λ byte. byte < 128) (sym (get_or-drop position pattern spelled 0)) ends) in
    let places : position + (spelled + 1) ≡ position + 1 + spelled = omega arith in
    let rest : drop (spelled + 1) (drop position pattern) ≡ drop (position + 1 + spelled) pattern =
    drop-drop (spelled + 1) position pattern ∙ ap (λ n. drop n pattern) places in
    record {
      within = inside;
      known = none_left _ _ known;
      room = omega (arith, room, length-append line text, short);
      prints = append_assoc line text _ ∙ prints;
      utf8 = IsUtf8-append (line ++ text) (drop (position + 1 + spelled) pattern)
          (IsUtf8-append line text around.0 (IsUtf8-from_ascii text (conversion_ascii s c shown)))
          (subst IsUtf8 rest around.1);
    }

-- how many bytes two digits have, and a time of day
pub two_long : (n : ℕ) → length (two_digits n) ≡ 2
unfolding two_digits
two_long n = refl

time_long : (h m s : ℕ) → length (two_digits h ++ (58 ∷ two_digits m ++ (58 ∷ two_digits s))) ≡ 8
unfolding two_digits
time_long h m s = refl

-- a colon and a conversion of one letter
colon_printed : (pattern : List ℕ) (s : Shown) (position : ℕ) (line : List ℕ) (letter : ℕ) (rest : List ℕ)
    (c : Conversion) → IsPrintedUpTo pattern s position line → drop position pattern ≡ 58 ∷ 37 ∷ letter ∷ rest
    → letter < 128 → conversion_at (letter ∷ rest) 0 ≡ Some (c, 1) → IsShown s
    → length (conversion_text s c) ≤ conversion_width c
    → IsPrintedUpTo pattern s (position + 3) ((line ++ 58 ∷ []) ++ conversion_text s c)
colon_printed pattern s position line letter rest c h is ascii spells shown short =
    let len : length (drop position pattern) ≡ suc (suc (suc (length rest))) = ap length is in
    let within : position + 2 < length pattern = omega (arith, length-drop position pattern, len) in
    let at : (i : ℕ) → get_or pattern (position + i) 0 ≡ get_or (58 ∷ 37 ∷ letter ∷ rest) i 0 =
    λ i. sym (get_or-drop position pattern i 0) ∙ ap (λ bytes. get_or bytes i 0) is in
    let colon : get_or pattern position 0 ≡ 58 = ap (λ n. get_or pattern n 0) (sym (add-zero position)) ∙ at 0 in
    let after : IsPrintedUpTo pattern s (position + 1) (line ++ 58 ∷ []) =
    subst (λ byte. IsPrintedUpTo pattern s (position + 1) (line ++ byte ∷ [])) colon
    (byte_printed pattern s position line h (omega (arith, within)) (λ is. absurd (omega (arith, is, colon)))) in
    let two : position + 1 + 1 ≡ position + 2 = omega arith in
    let three : position + 1 + 1 + 1 ≡ position + 3 = omega arith in
    let last : position + 1 + 1 + 1 - 1 ≡ position + 2 = omega arith in
    let letters : drop (position + 1 + 1) pattern ≡ letter ∷ rest =
    ap (λ n. drop n pattern) two ∙ sym (drop-drop 2 position pattern) ∙ ap (drop 2) is in
    subst (λ n. IsPrintedUpTo pattern s n ((line ++ 58 ∷ []) ++ conversion_text s c)) three
    (conversion_printed pattern s (position + 1) (line ++ 58 ∷ []) c 1 after (omega (arith, within)) (at 1)
    (sym (conversion_after pattern (position + 1 + 1)) ∙ ap (λ bytes. conversion_at bytes 0) letters ∙ spells)
    (omega arith) (omega (arith, within))
    (subst (λ byte. byte < 128) (sym (ap (λ n. get_or pattern n 0) last ∙ at 2)) ascii) shown short)

-- the time of day, in one piece
pub time_printed : (pattern : List ℕ) (s : Shown) (position : ℕ) (line : List ℕ) (spelled : ℕ) (rest : List ℕ)
    → IsPrintedUpTo pattern s position line → position < length pattern → get_or pattern position 0 ≡ 37
    → conversion_at pattern (position + 1) ≡ Some (Hour, spelled)
    → 1 ≤ spelled → position + 1 + spelled ≤ length pattern → get_or pattern (position + 1 + spelled - 1) 0 < 128
    → IsShown s → drop (position + 1 + spelled) pattern ≡ codes ":%M:%S" ++ rest
    → (length line + 8 ≤ 128) × IsPrintedUpTo pattern s (position + 1 + spelled + 6) (line
    ++ (two_digits s.fields.hour ++ (58 ∷ two_digits s.fields.minute ++ (58 ∷ two_digits s.fields.second))))
unfolding conversion_text conversion_width conversion_at letter_conversion
time_printed pattern s position line spelled rest h within percent is some inside last shown follows =
    let f = s.fields in
    let from = position + 1 + spelled in
    let hour = conversion_printed pattern s position line Hour spelled h within percent is some inside last shown
    (omega (arith, two_long f.hour)) in
    let minute = colon_printed pattern s from (line ++ two_digits f.hour) 77 (58 ∷ 37 ∷ 83 ∷ rest) Minute hour follows
    (lit< tt) refl shown (omega (arith, two_long f.minute)) in
    let left : drop (from + 3) pattern ≡ 58 ∷ 37 ∷ 83 ∷ rest = sym (drop-drop 3 from pattern) ∙ ap (drop 3) follows in
    let second = colon_printed pattern s (from + 3) (((line ++ two_digits f.hour) ++ 58 ∷ []) ++ two_digits f.minute)
    83 rest Second minute left (lit< tt) refl shown (omega (arith, two_long f.second)) in
    let places : from + 3 + 3 ≡ from + 6 = omega arith in
    let text = two_digits f.hour ++ (58 ∷ two_digits f.minute ++ (58 ∷ two_digits f.second)) in
    let joined : ((((line ++ two_digits f.hour) ++ 58 ∷ []) ++ two_digits f.minute) ++ 58 ∷ []) ++ two_digits f.second
    ≡ line ++ text = simp append_assoc in
    let all : IsPrintedUpTo pattern s (from + 6) (line ++ text) =
    subst (λ n. IsPrintedUpTo pattern s n (line ++ text)) places
    (subst (IsPrintedUpTo pattern s (from + 3 + 3)) joined second) in
    let eight : length (line ++ text) ≡ length line + 8 =
    length-append line text ∙ ap (λ n. length line + n) (time_long f.hour f.minute f.second) in
    (omega (arith, eight, all.room), all)

pub all_printed : (pattern : List ℕ) (s : Shown) (position : ℕ) (line : List ℕ) → IsPrintedUpTo pattern s position line
    → length pattern ≤ position → (line ≡ text_of pattern s) × IsUtf8 line
all_printed pattern s position line h past =
    let prints = rw (no_item pattern position past) at h.prints in
    let utf8 = rw (drop_all position pattern past) at h.utf8 in
    (sym (append-nil line) ∙ prints, subst IsUtf8 (append-nil line) utf8)
