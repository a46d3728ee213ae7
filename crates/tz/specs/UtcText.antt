-- Texts of UTC date times: RFC 3339, section 5.6, with `Z` for the offset.
use Rattle.std.specs.Prelude.{◌≡◌, ℕ, ◌+◌, List, [], length}
use Rattle.tz_base.specs.declared.fields.Fields.{Fields}
use Rattle.tz.specs.DateTimeGrammar.{date, time, IsSeparator, IsMark, IsEnd}
use Rattle.tz.specs.GrammarSteps.{Grammar, one, ◌▸◌, done}
use Rattle.tz.specs.declared.parse.DateTimePart.TheVariants as parts
use Rattle.tz.specs.declared.parse.OffsetMark.TheVariants.{Utc}
use Rattle.tz.specs.declared.parse.ParseDateTimeError.{ParseDateTimeError}

-- `Z` or `z`
abbrev pub IsUtcMark : List ℕ → Unit {0} → List ℕ → Type 0
IsUtcMark text value rest = IsMark text Utc rest

-- date-time whose time-offset is this mark
abbrev pub utc_date_time : Grammar Fields
utc_date_time =
    date ▸ λ f.
    one parts.Separator IsSeparator ▸ λ separator.
    time f ▸ λ local.
    one parts.Offset IsUtcMark ▸ λ mark.
    one parts.End IsEnd ▸ λ end.
    done local

-- the text is one of the fields
abbrev pub IsUtcText : List ℕ → Fields → Type 0
IsUtcText text f = utc_date_time.reads text f []

-- the text is none, because of this part at this byte: as many bytes stand before its position
abbrev pub IsUtcTextFault : List ℕ → ParseDateTimeError → Type 0
IsUtcTextFault text e = (rest : List ℕ) × utc_date_time.misses text e.expected rest
    × (e.position + length rest ≡ length text)
