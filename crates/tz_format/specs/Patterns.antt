-- Patterns, and the texts that they print.
use Rattle.std.specs.Prelude.{ℕ, zero, suc, ◌+◌, ◌≤◌, ◌<◌, ◌≡◌, ◌==◌, if◌then◌else◌, List, [], ◌∷◌, ◌++◌, Option, Some, None, option_map}
use Rattle.tz_format.specs.Conversions.{conversion_at}
use Rattle.tz_format.specs.Shown.{Shown}
use Rattle.tz_format.specs.Texts.{conversion_text}
use Rattle.tz_format.specs.Widths.{conversion_width}
use Rattle.tz_format.specs.declared.conversion.Conversion.{Conversion}
use Rattle.tz_format.specs.declared.pattern.PatternError.{PatternError}
use Rattle.tz_format.specs.declared.pattern.PatternError.TheVariants.{UnknownConversion, TooLong}

-- a part of a pattern: a byte that stands for itself, a conversion with the number of the bytes
-- that spell it, or a `%` that spells none
pub data Item : Type 0 where
  Byte : ℕ → Item
  Converted : Conversion → ℕ → Item
  Unknown : Item

-- the items from a `%` on, by the conversion that the bytes after it spell, and by the items that
-- follow so many of these bytes
abbrev pub items_at : Option (Conversion × ℕ) → (ℕ → List Item) → List Item
items_at None rest = Unknown ∷ []
items_at (Some c) rest = Converted c.0 c.1 ∷ rest c.1

-- the items of the bytes after the first ones, of which so many are left out
unfoldable pub items_after : ℕ → List ℕ → List Item
items_after skipped [] = []
items_after (suc skipped) (byte ∷ bytes) = items_after skipped bytes
items_after zero (byte ∷ bytes) =
    if byte == 37
    then items_at (conversion_at bytes 0) (λ spelled. items_after spelled bytes)
    else Byte byte ∷ items_after 0 bytes

-- the items of a pattern
abbrev pub items_of : List ℕ → List Item
items_of pattern = items_after 0 pattern

-- how many bytes stand before the first `%` that spells no conversion
abbrev pub first_unknown : List Item → Option ℕ
first_unknown [] = None
first_unknown (Byte byte ∷ items) = option_map (λ position. position + 1) (first_unknown items)
first_unknown (Converted c spelled ∷ items) =
    option_map (λ position. position + (spelled + 1)) (first_unknown items)
first_unknown (Unknown ∷ items) = Some 0

-- what an item prints
abbrev pub item_text : Shown → Item → List ℕ
item_text s (Byte byte) = byte ∷ []
item_text s (Converted c spelled) = conversion_text s c
item_text s Unknown = []

-- the most bytes that an item prints
abbrev pub item_width : Item → ℕ
item_width (Byte byte) = 1
item_width (Converted c spelled) = conversion_width c
item_width Unknown = 0

-- what items print, and the most bytes of it
abbrev pub texts : Shown → List Item → List ℕ
texts s [] = []
texts s (item ∷ items) = item_text s item ++ texts s items

abbrev pub widths : List Item → ℕ
widths [] = 0
widths (item ∷ items) = item_width item + widths items

-- the text that a pattern prints, and the most bytes that it has whatever the date time
abbrev pub text_of : List ℕ → Shown → List ℕ
text_of pattern s = texts s (items_of pattern)

abbrev pub width_of : List ℕ → ℕ
width_of pattern = widths (items_of pattern)

-- a pattern: each `%` spells a conversion, and no text has more than 128 bytes
pub record IsPattern (pattern : List ℕ) : Type 0 where
  pub known : first_unknown (items_of pattern) ≡ None
  pub fits : width_of pattern ≤ 128

-- why a text is no pattern: the first `%` that spells no conversion, or else the length of a text
abbrev pub IsPatternFault : List ℕ → PatternError → Type 0
IsPatternFault pattern (UnknownConversion position) =
    first_unknown (items_of pattern) ≡ Some position
IsPatternFault pattern TooLong =
    (first_unknown (items_of pattern) ≡ None) × (128 < width_of pattern)
