-- Which fault of a TZif file is the first that is met: what comes before it is as stated. (RFC
-- 8536, section 3.) Headers and blocks come first, from the magic number to the end of the file,
-- then each type in turn, the indicators, the footer, and the checks of the zone.
use Rattle.std.specs.Prelude.{◌≡◌, ◌≢◌, ℕ, ◌+◌, ◌*◌, ◌<◌, ◌≤◌, ◌⊎◌, Bool, List, [], length, Option, Some, None, IsUtf8, slice_index, alloc_error}
use Rattle.std.specs.Int.{Width, w32, w64}
use Rattle.tz_base.specs.declared.error.TzError.{TzError}
use Rattle.tz_base.specs.declared.error.TzError.TheVariants.{TzFile, TimeZone, LocalTimeType as TypeFault, Memory}
use Rattle.tz_base.specs.declared.error.ParseDataError.TheVariants.{UnexpectedEof}
use Rattle.tz_base.specs.declared.error.TzFileError.{TzFileError}
use Rattle.tz_base.specs.declared.error.TzFileError.TheVariants.{ParseData, InvalidMagicNumber, UnsupportedTzFileVersion, InvalidHeader, InvalidDstIndicator, InvalidTimeZoneDesignationCharIndex, InvalidStdWallUtLocal, RemainingDataV1, Utf8, InvalidFooter}
use Rattle.tz_base.specs.declared.error.TimeZoneError.TheVariants.{InvalidLeapSecond}
use Rattle.tz_rule.specs.LocalTimeType.{IsFirstTypeFault}
use Rattle.tz_rule.specs.declared.timezone.transition_rule.TransitionRule.{TransitionRule}
use Rattle.tz_zone.specs.TzTextFault.{IsTzTextFault}
use Rattle.tz_zone.specs.ValidZone.{IsFirstZoneFault}
use Rattle.tz_zone.specs.TzFile.{header_len, HasMagic, IsVersion, AreCounts, counts_of, IsHeader, end_at, IsUnit, after, Block, IsFlag, HasName, type_at, IsTypeRecord, HasIndicators, IsContent, IsFirstVersion, IsFramed, part_of, footer_of, trimmed, IsBetweenLineFeeds, MayBeText, IsFooter, IsExtraRule, is_extended, zone_of_part, Part, HoldsLeapSeconds}

-- the first fault of the header at the front
abbrev pub HeaderFails : List ℕ → TzFileError → Type 0
HeaderFails bytes (ParseData UnexpectedEof) = (length bytes < header_len)
    × (4 ≤ length bytes → HasMagic bytes) × (5 ≤ length bytes → IsVersion (slice_index bytes 4))
HeaderFails bytes InvalidMagicNumber = (4 ≤ length bytes) × ¬ HasMagic bytes
HeaderFails bytes UnsupportedTzFileVersion =
    (5 ≤ length bytes) × HasMagic bytes × ¬ IsVersion (slice_index bytes 4)
HeaderFails bytes InvalidHeader =
    (header_len ≤ length bytes) × HasMagic bytes × IsVersion (slice_index bytes 4)
    × ¬ AreCounts (counts_of bytes)
HeaderFails _ _ = ⊥

-- of the header or its block
abbrev pub UnitFails : Width → List ℕ → TzFileError → Type 0
UnitFails w bytes e = HeaderFails bytes e
    ⊎ (IsHeader bytes × (e ≡ ParseData UnexpectedEof) × (length bytes < end_at w (counts_of bytes)))

-- of headers, blocks or the file's end
abbrev pub FrameFails : List ℕ → TzFileError → Type 0
FrameFails bytes e =
    UnitFails w32 bytes e
    ⊎ (IsUnit w32 bytes × IsFirstVersion bytes × (e ≡ RemainingDataV1) × (after w32 bytes ≢ []))
    ⊎ (IsUnit w32 bytes × ¬ IsFirstVersion bytes × UnitFails w64 (after w32 bytes) e)

-- of type record i
abbrev pub TypeFails : Block → ℕ → TzError → Type 0
TypeFails block i (TzFile InvalidDstIndicator) = ¬ IsFlag (slice_index block.types (i * 6 + 4))
TypeFails block i (TzFile InvalidTimeZoneDesignationCharIndex) =
    IsFlag (slice_index block.types (i * 6 + 4))
    × ¬ HasName block.names (slice_index block.types (i * 6 + 5))
TypeFails block i (TypeFault fault) =
    IsFlag (slice_index block.types (i * 6 + 4))
    × HasName block.names (slice_index block.types (i * 6 + 5))
    × IsFirstTypeFault (type_at block i) fault
TypeFails _ _ _ = ⊥

-- each record before one makes a type
abbrev pub AreTypesBefore : Block → ℕ → Type 0
AreTypesBefore block i = (j : ℕ) → j < i → IsTypeRecord block j

-- of the first type record that makes none
abbrev pub FirstTypeFails : Block → ℕ → TzError → Type 0
FirstTypeFails block count e = (i : ℕ) × (i < count) × AreTypesBefore block i × TypeFails block i e

-- of the indicators
abbrev pub IndicatorsFail : Block → ℕ → Type 0
IndicatorsFail block count = (i : ℕ) × (i < count) × ¬ HasIndicators block i

-- of the content of a block with this many types
abbrev pub ContentFails : Block → ℕ → TzError → Type 0
ContentFails block count e =
    FirstTypeFails block count e
    ⊎ ((e ≡ TzFile InvalidStdWallUtLocal) × AreTypesBefore block count × IndicatorsFail block count)

-- of a footer around its text: bytes that are not UTF-8 are refused for that
abbrev pub FooterFails : List ℕ → TzFileError → Type 0
FooterFails footer (Utf8 _) = ¬ IsUtf8 footer
FooterFails footer InvalidFooter =
    IsUtf8 footer × ¬ (IsBetweenLineFeeds footer × MayBeText (trimmed footer))
FooterFails _ _ = ⊥

-- of the rule after the tables
abbrev pub ExtraRuleFails : Bool → Option (List ℕ) → TzError → Type 0
ExtraRuleFails extended None e = ⊥
ExtraRuleFails extended (Some footer) e =
    ((fault : TzFileError) × (e ≡ TzFile fault) × FooterFails footer fault)
    ⊎ (IsFooter footer × (trimmed footer ≢ []) × IsTzTextFault extended (trimmed footer) e)

-- of the zone: leap seconds that the version does not hold, or a zone that is none
abbrev pub ZoneFails : Part → Option TransitionRule → TzError → Type 0
ZoneFails p rule e =
    ((e ≡ TimeZone InvalidLeapSecond) × ¬ HoldsLeapSeconds p)
    ⊎ (HoldsLeapSeconds p × IsFirstZoneFault (zone_of_part p rule) e)

-- the bytes are no file, and this is the first fault of theirs
abbrev pub FileFails : List ℕ → TzError → Type 0
FileFails bytes e =
    ((fault : TzFileError) × (e ≡ TzFile fault) × FrameFails bytes fault)
    ⊎ (IsFramed bytes × ContentFails (part_of bytes).block (part_of bytes).counts.local_type e)
    ⊎ (IsFramed bytes × IsContent (part_of bytes).block (part_of bytes).counts.local_type
    × ExtraRuleFails (is_extended (part_of bytes)) (footer_of bytes) e)
    ⊎ (IsFramed bytes × IsContent (part_of bytes).block (part_of bytes).counts.local_type
    × (rule : Option TransitionRule)
    × IsExtraRule (is_extended (part_of bytes)) (footer_of bytes) rule
    × ZoneFails (part_of bytes) rule e)

-- a reading is refused for memory, or for a fault that is there
abbrev pub IsReadFault : List ℕ → TzError → Type 0
IsReadFault bytes e = (e ≡ Memory alloc_error) ⊎ FileFails bytes e
