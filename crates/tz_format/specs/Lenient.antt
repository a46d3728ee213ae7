-- Local times as people write them: RFC 3339's (section 5.6) with less than it has, and with the
-- name of a time zone in brackets after them (RFC 9557, section 3).
use Rattle.std.specs.Prelude.{ℕ, ◌+◌, ◌-◌, ◌≤◌, ◌≡◌, ◌==◌, ◌&&◌, ◌||◌, nat_lt, nat_le, if◌then◌else◌, Bool, List, [], ◌∷◌, ◌++◌, length, take, drop, slice_index, Option, Some, None, ◌⊎◌, codes}
use Rattle.std.specs.List.{list_all, position_from}
use Rattle.tz.specs.DateTimeGrammar.{IsDateTimeText, IsDateTimeTextFault}
use Rattle.tz.specs.declared.parse.ParsedDateTime.{ParsedDateTime}
use Rattle.tz_format.specs.declared.lenient.LenientDateTimeError.{LenientDateTimeError}
use Rattle.tz_format.specs.declared.lenient.LenientDateTimeError.TheVariants.{ZoneName, DateTime}

-- a byte of a name: a letter, a digit or one of `+-./_`
abbrev pub is_name_byte : ℕ → Bool
is_name_byte b = (nat_le 65 b && nat_le b 90) || (nat_le 97 b && nat_le b 122)
    || (nat_le 45 b && nat_le b 57) || b == 43 || b == 95

-- a local time, and the name of a zone, which is empty if there is none
pub record Zoned : Type 0 where
  pub local : List ℕ
  pub name : List ℕ

-- what stands before a first `[`, and the name between it and a `]` that ends the text
abbrev pub named : List ℕ → List ℕ → Option Zoned
named local suffix =
    let name = take (length suffix - 1) suffix in
    if nat_lt 1 (length suffix) && slice_index suffix (length suffix - 1) == 93
    && list_all is_name_byte name
    then Some (record { local = local; name = name })
    else None

abbrev pub split_at_bracket : List ℕ → Option ℕ → Option Zoned
split_at_bracket text None = Some (record { local = text; name = [] })
split_at_bracket text (Some position) = named (take position text) (drop (position + 1) text)

abbrev pub zoned : List ℕ → Option Zoned
zoned text = split_at_bracket text (position_from (λ b. b == 91) 0 text)

-- `T`, `t` or a space
abbrev pub is_separator : ℕ → Bool
is_separator b = b == 84 || b == 116 || b == 32

-- with what an offset begins
abbrev pub is_offset_mark : ℕ → Bool
is_offset_mark b = b == 90 || b == 122 || b == 43 || b == 45

-- what follows the minutes, with what RFC 3339 has: seconds before an offset or the end, and a
-- point in the place of a comma after two digits
abbrev pub whole_seconds : List ℕ → List ℕ
whole_seconds rest =
    if nat_lt (length rest) 1 || is_offset_mark (slice_index rest 0)
    then codes ":00" ++ rest
    else (if nat_lt 3 (length rest) && slice_index rest 0 == 58 && slice_index rest 3 == 44
    then take 3 rest ++ 46 ∷ drop 4 rest
    else rest)

-- a local time with what RFC 3339 has: midnight after a date alone, or what follows the five bytes
-- of the hour and the minute
abbrev pub whole_from : List ℕ → Option ℕ → List ℕ
whole_from local None = local ++ codes "T00:00:00"
whole_from local (Some separator) =
    take (separator + 6) local ++ whole_seconds (drop (separator + 6) local)

abbrev pub whole : List ℕ → List ℕ
whole local = whole_from local (position_from is_separator 0 local)

-- no date time has the text
abbrev pub HasNoDateTime : List ℕ → Type 0
HasNoDateTime text = (p : ParsedDateTime) → IsDateTimeText text p → ⊥

-- a local time of RFC 3339, or else one of at most 119 bytes whose whole form is one
abbrev pub IsLocal : List ℕ → ParsedDateTime → Type 0
IsLocal local p = IsDateTimeText local p
    ⊎ (HasNoDateTime local × (length local ≤ 119) × IsDateTimeText (whole local) p)

-- the text is one of this date time in a zone of this name
abbrev pub IsLenientText : List ℕ → ParsedDateTime → List ℕ → Type 0
IsLenientText text p name =
    (z : Zoned) × (zoned text ≡ Some z) × IsLocal z.local p × (name ≡ z.name)

-- why a text is none: what follows its first `[`, or what the local time has not that RFC 3339 has
abbrev pub IsLenientFault : List ℕ → LenientDateTimeError → Type 0
IsLenientFault text ZoneName = zoned text ≡ None
IsLenientFault text (DateTime e) =
    (z : Zoned) × (zoned text ≡ Some z) × IsDateTimeTextFault z.local e
    × (length z.local ≤ 119 → HasNoDateTime (whole z.local))
