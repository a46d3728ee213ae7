-- What contracts see of a local time type. (RFC 8536, section 3.2: local time type records and time
-- zone designations.)
use Rattle.std.specs.Prelude.{◌≡◌, ◌≢◌, ℕ, ◌≤◌, ◌⊎◌, ℤ, negsuc, Bool, false, Option, None, List, [], length, All, IfSome, unwrap_or}
use Rattle.tz_base.specs.declared.error.LocalTimeTypeError.{LocalTimeTypeError}
use Rattle.tz_base.specs.declared.error.LocalTimeTypeError.TheVariants.{InvalidTimeZoneDesignationLength, InvalidTimeZoneDesignationChar, InvalidUtcOffset}

-- seconds that are added to UTC, whether this is daylight saving time, and the bytes of its name,
-- if it has one
pub record LocalTimeType : Type 0 where
  pub ut_offset : ℤ
  pub is_dst : Bool
  pub designation : Option (List ℕ)

-- the type with these parts
abbrev pub type_of : ℤ → Bool → Option (List ℕ) → LocalTimeType
type_of offset daylight name = record { ut_offset = offset; is_dst = daylight; designation = name }

-- an ASCII digit, an ASCII letter, `+` or `-`
abbrev pub IsDesignationByte : ℕ → Type 0
IsDesignationByte b = ((48 ≤ b) × (b ≤ 57)) ⊎ ((65 ≤ b) × (b ≤ 90)) ⊎ ((97 ≤ b) × (b ≤ 122))
    ⊎ (b ≡ 43) ⊎ (b ≡ 45)

-- one to seven bytes
abbrev pub IsDesignationLength : List ℕ → Type 0
IsDesignationLength name = (1 ≤ length name) × (length name ≤ 7)

-- a name of a type
pub record IsDesignation (name : List ℕ) : Type 0 where
  pub length_is : IsDesignationLength name
  pub bytes_are : All IsDesignationByte name

-- every offset of 32 bits but the least
abbrev pub IsOffset : ℤ → Type 0
IsOffset offset = offset ≢ negsuc 2147483647

-- the parts of some local time type
pub record IsLocalTimeType (t : LocalTimeType) : Type 0 where
  pub offset_is : IsOffset t.ut_offset
  pub designation_is : IfSome t.designation IsDesignation

-- the fault that is named if there are several: the offset's, the length's, and then that of a byte
abbrev pub IsFirstTypeFault : LocalTimeType → LocalTimeTypeError → Type 0
IsFirstTypeFault t InvalidUtcOffset = ¬ IsOffset t.ut_offset
IsFirstTypeFault t InvalidTimeZoneDesignationLength = IsOffset t.ut_offset
    × ¬ IfSome t.designation IsDesignationLength
IsFirstTypeFault t InvalidTimeZoneDesignationChar =
    IsOffset t.ut_offset × IfSome t.designation IsDesignationLength
    × ¬ IfSome t.designation (All IsDesignationByte)

-- a type without a name that is not daylight saving time
abbrev pub plain_type : ℤ → LocalTimeType
plain_type offset = type_of offset false None

-- the name, or no bytes
abbrev pub designation_text : LocalTimeType → List ℕ
designation_text t = unwrap_or t.designation []
