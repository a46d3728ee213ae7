-- What a run of the program has read and written.
-- What the reader of files can answer for a path is a relation, as it is for the settings.
use Rattle.std.specs.Prelude.{◌≡◌, ◌≢◌, ℕ, ◌⊎◌, ℤ, List, [], ◌∷◌, Option, None, Ok, Err, Vec, vec_items, map, codes, alloc_error, FitsSigned}
use Rattle.std.specs.Borrow.{Bor}
use Rattle.std.specs.Int.{w32}
use Rattle.std.specs.declared.alloc.Global.{Global}
use Rattle.tz_base.specs.declared.error.Error.TheVariants.{Tz}
use Rattle.tz_base.specs.declared.error.TzError.{TzError}
use Rattle.tz_base.specs.declared.error.TzError.TheVariants.{Memory as NoMemory}
use Rattle.tz_rule.specs.LocalTimeType.{plain_type, IsOffset}
use Rattle.tz_zone.specs.Settings.{Read, IsSettingsAnswer}
use Rattle.tz_zone.specs.Table.{Zone, zone_with}
use Rattle.tz_zone.specs.TzFile.{IsTzFile}
use Rattle.tz_query.specs.Numbers.{IsNumber}
use Rattle.tz_query.specs.Streams.{WritesAnswers, WritesFrontOfAnswers}

-- the texts that arguments lend
abbrev pub texts_of : List (Bor (List ℕ)) → List (List ℕ)
texts_of arguments = map (λ (value : Bor (List ℕ)). value.now) arguments

-- the zone of one type without a name
abbrev pub fixed_zone : ℤ → Zone
fixed_zone offset = zone_with [] (plain_type offset ∷ []) [] None

-- the directories in which the files of a TZ string are
abbrev pub usual_directories : List (List ℕ)
usual_directories = codes "/usr/share/zoneinfo" ∷ codes "/share/zoneinfo" ∷ codes "/etc/zoneinfo"
    ∷ []

-- a number means the fixed zone with this offset
abbrev pub IsZoneOfOffset : List ℕ → Zone → Type 0
IsZoneOfOffset number zone = (offset : ℤ) × IsNumber number offset × FitsSigned w32 offset
    × (zone ≡ fixed_zone offset)

-- a path means the zone denoted by bytes that the reader can return for it
abbrev pub IsZoneOfFile : (List ℕ → Read → Type 0) → List ℕ → Zone → Type 0
IsZoneOfFile reads path zone = (bytes : Vec ℕ Global) × reads path (Ok bytes)
    × IsTzFile (vec_items bytes) zone

-- a TZ string means the zone that the settings can return for it
abbrev pub IsZoneOfText : (List ℕ → Read → Type 0) → List ℕ → Zone → Type 0
IsZoneOfText reads text zone = IsSettingsAnswer reads usual_directories text (Ok zone)

-- the zone that an option and its value name
abbrev pub IsZoneOfOption : (List ℕ → Read → Type 0) → List ℕ → List ℕ → Zone → Type 0
IsZoneOfOption reads option value zone =
    ((option ≡ codes "-o") × IsZoneOfOffset value zone)
    ⊎ ((option ≡ codes "-f") × IsZoneOfFile reads value zone)
    ⊎ ((option ≡ codes "-z") × IsZoneOfText reads value zone)

-- two arguments name a zone, an option and its value
abbrev pub NamesZone : (List ℕ → Read → Type 0) → List (List ℕ) → Zone → Type 0
NamesZone reads arguments zone = (option : List ℕ) × (value : List ℕ)
    × (arguments ≡ option ∷ value ∷ []) × IsZoneOfOption reads option value zone

-- a number is an offset of 32 bits that no local time type has
abbrev pub IsRefusedOffset : List ℕ → Type 0
IsRefusedOffset number = (offset : ℤ) × IsNumber number offset × FitsSigned w32 offset
    × ¬ IsOffset offset

-- the reader can answer bytes for a path that denote no zone
abbrev pub IsRefusedFile : (List ℕ → Read → Type 0) → List ℕ → Type 0
IsRefusedFile reads path = (bytes : Vec ℕ Global) × reads path (Ok bytes)
    × ((zone : Zone) → ¬ IsTzFile (vec_items bytes) zone)

-- the settings can answer a TZ string with a fault of the string, or of the file that it names
abbrev pub IsRefusedText : (List ℕ → Read → Type 0) → List ℕ → Type 0
IsRefusedText reads text = (e : TzError)
    × IsSettingsAnswer reads usual_directories text (Err (Tz e)) × (e ≢ NoMemory alloc_error)

-- the value of an option makes no zone
abbrev pub IsRefusedOption : (List ℕ → Read → Type 0) → List ℕ → List ℕ → Type 0
IsRefusedOption reads option value =
    ((option ≡ codes "-o") × IsRefusedOffset value)
    ⊎ ((option ≡ codes "-f") × IsRefusedFile reads value)
    ⊎ ((option ≡ codes "-z") × IsRefusedText reads value)

-- two arguments are an option and a value that makes no zone
abbrev pub NamesRefusedZone : (List ℕ → Read → Type 0) → List (List ℕ) → Type 0
NamesRefusedZone reads arguments = (option : List ℕ) × (value : List ℕ)
    × (arguments ≡ option ∷ value ∷ []) × IsRefusedOption reads option value

-- the input is read to its end, and its answers over the zone of the arguments are written, where
-- the bytes of input and output are known
pub record AnswersInput (reads : List ℕ → Read → Type 0) (arguments : List (List ℕ))
    (unread left written now : Option (List ℕ)) : Type 0 where
  pub zone : Zone
  pub asked : NamesZone reads arguments zone
  pub wrote : WritesAnswers zone unread left written now

-- the input is read to its end, and a front of its answers over the zone of the arguments is
-- written
pub record BeginsAnswers (reads : List ℕ → Read → Type 0) (arguments : List (List ℕ))
    (unread left written now : Option (List ℕ)) : Type 0 where
  pub zone : Zone
  pub asked : NamesZone reads arguments zone
  pub wrote : WritesFrontOfAnswers zone unread left written now
