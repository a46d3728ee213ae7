-- How far a text is read.
use Rattle.std.proofs.Common.{arith, refl, ◌≡◌, ◌≢◌, ◌∙◌, ap, sym, ℕ, zero, suc, ◌∷◌, ◌<◌, ◌≤◌, length, ◌+◌, ◌++◌, List, get_or, drop, Option, Some, None, true, false, Bool, ℤ, pos, inl, inr}
use Rattle.std.specs.Prelude.{IfNone, option_map, ◌||◌, ◌&&◌, replicate}
use Rattle.std.proofs.Math.Bool.{or-true}
use Rattle.tz_format.specs.Conversions.{conversion_at}
use Rattle.tz_format.specs.Patterns.{Converted, items_of, first_unknown, texts}
use Rattle.tz_format.specs.Readings.{IsReading, IsGuess, are_read, are_readable, are_shown, is_part, is_read, is_whole, parts_of, read_width, set_all, value, value_read}
use Rattle.tz_format.specs.Shown.{Shown}
use Rattle.tz_format.specs.Texts.{conversion_text}
use Rattle.tz_format.specs.declared.conversion.Conversion.{Conversion}
use Rattle.tz_format.proofs.Fronts.{each_value, after_is}
use Rattle.tz_format.proofs.Items.{byte_item, unknown_item, converted_item, no_item}
use Rattle.tz_format.proofs.Parts.{are_below, known, set_all_at, set_all_same, length-set_all, parts_below, pick}

-- of each date time that the text can be of, what is left of the text is what the rest of the
-- pattern prints, and the parts are those that the rest does not show
pub record IsReadUpTo (pattern text : List ℕ) (position : ℕ) (left : List ℕ) (values : List ℤ)
    (shown : List Bool) : Type 0 where
  pub within : position ≤ length pattern
  pub known_are : first_unknown (items_of (drop position pattern)) ≡ None
  pub readable : are_read (items_of pattern) ≡ are_read (items_of (drop position pattern))
  pub long : length values ≡ 13
  pub long_shown : length shown ≡ 13
  pub left_is : (s : Shown) → IsReading pattern text s → left ≡ texts s (items_of (drop position pattern))
  pub values_are : (s : Shown) → IsReading pattern text s → (k : ℕ) → k < 11
      → are_shown k (items_of (drop position pattern)) ≡ false → get_or values k (pos 0) ≡ value s k
  pub hidden : (k : ℕ) → k < 11 → are_shown k (items_of pattern) ≡ false
      → (are_shown k (items_of (drop position pattern)) ≡ false) × (get_or values k (pos 0) ≡ pos 0)
  pub shown_are : (k : ℕ) → are_shown k (items_of pattern)
      ≡ (get_or shown k false || are_shown k (items_of (drop position pattern)))

none_left : {A B : Type 0} (f : A → B) (o : Option A) → option_map f o ≡ None → o ≡ None
none_left f None none = refl
none_left f (Some x) none = absurd (cc none)

or_none : (a b : Bool) → (a || b) ≡ false → (a ≡ false) × (b ≡ false)
or_none true b none = absurd (cc none)
or_none false b none = (refl, none)

or_false : (a : Bool) → (a || false) ≡ a
or_false true = refl
or_false false = refl

pub none_holds : {A : Type 0} {P : Type 0} (r : Option A) → P → IfNone r P
none_holds None holds = holds
none_holds (Some x) holds = tt

zeros : (n k : ℕ) → get_or (replicate n (pos 0)) k (pos 0) ≡ pos 0
zeros zero k = refl
zeros (suc n) zero = refl
zeros (suc n) (suc k) = zeros n k

falses : (n k : ℕ) → get_or (replicate n false) k false ≡ false
falses zero k = refl
falses (suc n) zero = refl
falses (suc n) (suc k) = falses n k

pub nothing_read : (pattern text : List ℕ) → first_unknown (items_of pattern) ≡ None
    → IsReadUpTo pattern text 0 text (replicate 13 (pos 0)) (replicate 13 false)
nothing_read pattern text known_are = record {
  within = omega arith;
  known_are = known_are;
  readable = refl;
  long = refl;
  long_shown = refl;
  left_is = λ s h. h.prints;
  values_are = λ s h k below none. zeros 13 k ∙ sym (h.hidden k below none);
  hidden = λ k below none. (none, zeros 13 k);
  shown_are = λ k. sym (ap (λ b. b || are_shown k (items_of pattern)) (falses 13 k));
}

pub byte_read : (pattern text : List ℕ) (position : ℕ) (left : List ℕ) (values : List ℤ) (shown : List Bool)
    → IsReadUpTo pattern text position left values shown → position < length pattern → get_or pattern position 0 ≢ 37
    → IsReadUpTo pattern text (position + 1) (drop 1 left) values shown
byte_read pattern text position left values shown h within other =
    let item = byte_item pattern position within other in
    let known_are = rw item at h.known_are in
    let readable = rw item at h.readable in
    record {
      within = omega arith;
      known_are = none_left _ _ known_are;
      readable = readable;
      long = h.long;
      long_shown = h.long_shown;
      left_is = λ s reading. ap (drop 1) (h.left_is s reading ∙ ap (texts s) item);
      values_are = λ s reading k below none. h.values_are s reading k below (ap (are_shown k) item ∙ none);
      hidden = λ k below none. (sym (ap (are_shown k) item) ∙ (h.hidden k below none).0, (h.hidden k below none).1);
      shown_are = λ k. h.shown_are k ∙ ap (λ b. get_or shown k false || b) (ap (are_shown k) item);
    }

pub none_read : (pattern text : List ℕ) (position : ℕ) (left : List ℕ) (values : List ℤ) (shown : List Bool)
    → IsReadUpTo pattern text position left values shown → position < length pattern → get_or pattern position 0 ≡ 37
    → conversion_at pattern (position + 1) ≡ None → ⊥
none_read pattern text position left values shown h within percent none =
    let known_are = rw (unknown_item pattern position within percent none) at h.known_are in absurd (cc known_are)

pub unread : (pattern text : List ℕ) (position : ℕ) (left : List ℕ) (values : List ℤ) (shown : List Bool)
    (c : Conversion) (spelled : ℕ) → IsReadUpTo pattern text position left values shown → position < length pattern
    → get_or pattern position 0 ≡ 37
    → conversion_at pattern (position + 1) ≡ Some (c, spelled) → is_read c ≡ false
    → are_readable (items_of pattern) ≡ false
unread pattern text position left values shown c spelled h within percent is none =
    ap (λ b. b && is_whole (λ part. are_shown part (items_of pattern)))
    (h.readable ∙ ap are_read (converted_item pattern position c spelled within percent is)
    ∙ ap (λ b. b && are_read (items_of (drop (position + 1 + spelled) pattern))) none)

pub conversion_read : (pattern text : List ℕ) (position : ℕ) (left : List ℕ) (values : List ℤ) (shown : List Bool)
    (c : Conversion) (spelled : ℕ) → IsReadUpTo pattern text position left values shown
    → position < length pattern → get_or pattern position 0 ≡ 37
    → conversion_at pattern (position + 1) ≡ Some (c, spelled) → position + 1 + spelled ≤ length pattern
    → is_read c ≡ true
    → IsReadUpTo pattern text (position + 1 + spelled) (drop (read_width c left) left)
    (set_all (parts_of c) (λ k. value_read c k left) values) (set_all (parts_of c) (λ k. true) shown)
conversion_read pattern text position left values shown c spelled h within percent is inside read =
    let item = converted_item pattern position c spelled within percent is in
    let parts = parts_of c in
    let rest = items_of (drop (position + 1 + spelled) pattern) in
    let known_are = rw item at h.known_are in
    let all : are_read (Converted c spelled ∷ rest) ≡ are_read rest = ap (λ b. b && are_read rest) read in
    let left_at : (s : Shown) → IsReading pattern text s → left ≡ conversion_text s c ++ texts s rest =
    (λ s reading. h.left_is s reading ∙ ap (texts s) item) in
    let same : (k : ℕ) → is_part k parts ≡ false
    → get_or (set_all parts (λ k. value_read c k left) values) k (pos 0) ≡ get_or values k (pos 0) =
    (λ k none. set_all_same parts (λ k. value_read c k left) values k (pos 0) none) in
    let here : (k : ℕ) → is_part k parts ≡ true
    → get_or (set_all parts (λ k. value_read c k left) values) k (pos 0) ≡ value_read c k left =
    (λ k part. set_all_at parts (λ k. value_read c k left) values k (pos 0) part (parts_below c _ h.long)) in
    record {
      within = inside;
      known_are = none_left _ _ known_are;
      readable = h.readable ∙ ap are_read item ∙ all;
      long = length-set_all parts (λ k. value_read c k left) values ∙ h.long;
      long_shown = length-set_all parts (λ k. true) shown ∙ h.long_shown;
      left_is = λ s reading. ap (λ xs. drop (read_width c xs) xs) (left_at s reading)
          ∙ after_is s c (texts s rest) reading.plain read;
      values_are = λ s reading k below none. elim (known (is_part k parts)) [
        | inl part ↦ here k part ∙ ap (value_read c k) (left_at s reading)
            ∙ pick (λ k. value_read c k (conversion_text s c ++ texts s rest) ≡ value s k) parts
            (each_value s c (texts s rest) reading.plain) k part
        | inr other ↦ same k other ∙ h.values_are s reading k below
            (ap (are_shown k) item ∙ ap (λ b. b || are_shown k rest) other ∙ none)
      ];
      hidden = λ k below none.
          let before = h.hidden k below none in
          let apart = or_none (is_part k parts) (are_shown k rest) (sym (ap (are_shown k) item) ∙ before.0) in
          (apart.1, same k apart.0 ∙ before.1);
      shown_are = λ k. h.shown_are k ∙ ap (λ b. get_or shown k false || b) (ap (are_shown k) item)
          ∙ shown_with parts shown k (are_shown k rest) (parts_below c _ h.long_shown);
    }
  where
    shown_with : (parts : List ℕ) (shown : List Bool) (k : ℕ) (later : Bool) → are_below (length shown) parts ≡ true
        → (get_or shown k false || (is_part k parts || later))
        ≡ (get_or (set_all parts (λ k. true) shown) k false || later)
    shown_with parts shown k later below = elim (known (is_part k parts)) [
      | inl part ↦ ap (λ b. get_or shown k false || (b || later)) part ∙ or-true (get_or shown k false)
          ∙ sym (ap (λ b. b || later) (set_all_at parts (λ k. true) shown k false part below))
      | inr other ↦ ap (λ b. get_or shown k false || (b || later)) other
          ∙ sym (ap (λ b. b || later) (set_all_same parts (λ k. true) shown k false other))
    ]

whole_same : (f g : ℕ → Bool) → ((k : ℕ) → f k ≡ g k) → is_whole f ≡ is_whole g
whole_same f g same = λ i. is_whole (λ k. same k i)

shown_at_end : (pattern text : List ℕ) (position : ℕ) (left : List ℕ) (values : List ℤ) (shown : List Bool)
    → IsReadUpTo pattern text position left values shown → length pattern ≤ position
    → (k : ℕ) → get_or shown k false ≡ are_shown k (items_of pattern)
shown_at_end pattern text position left values shown h past k =
    sym (h.shown_are k ∙ ap (λ items. get_or shown k false || are_shown k items) (no_item pattern position past)
    ∙ or_false (get_or shown k false))

pub all_read : (pattern text : List ℕ) (position : ℕ) (left : List ℕ) (values : List ℤ) (shown : List Bool)
    → IsReadUpTo pattern text position left values shown → length pattern ≤ position
    → is_whole (λ part. get_or shown part false) ≡ true → IsGuess pattern text values (get_or shown 10 false)
all_read pattern text position left values shown h past whole =
    let none = no_item pattern position past in
    let shown_are = shown_at_end pattern text position left values shown h past in
    record {
      readable = ap (λ b. b && is_whole (λ part. are_shown part (items_of pattern))) (h.readable ∙ ap are_read none)
          ∙ sym (whole_same _ _ shown_are) ∙ whole;
      values_are = λ s reading k below. h.values_are s reading k below (ap (are_shown k) none);
      hidden = λ k below hidden. (h.hidden k below hidden).1;
      offset = shown_are 10;
    }

pub not_whole : (pattern text : List ℕ) (position : ℕ) (left : List ℕ) (values : List ℤ) (shown : List Bool)
    → IsReadUpTo pattern text position left values shown → length pattern ≤ position
    → is_whole (λ part. get_or shown part false) ≡ false → are_readable (items_of pattern) ≡ false
not_whole pattern text position left values shown h past parted =
    ap (λ b. b && is_whole (λ part. are_shown part (items_of pattern)))
    (h.readable ∙ ap are_read (no_item pattern position past))
    ∙ sym (whole_same _ _ (shown_at_end pattern text position left values shown h past)) ∙ parted
