-- TZif files: which bytes are one, and the tables that they denote. (RFC 8536, section 3; version 4
-- after RFC 9636, section 3.)
use Rattle.std.specs.Prelude.{◌≡◌, ◌≢◌, ℕ, ◌+◌, ◌-◌, ◌*◌, ◌<◌, ◌≤◌, ◌⊎◌, ℤ, Bool, ◌==◌, if◌then◌else◌, List, [], length, take, drop, map, Option, Some, None, Contains, IsUtf8, slice_get, slice_index, slice_range, codes, ◌||◌}
use Rattle.std.specs.Char.{is_ascii_whitespace}
use Rattle.std.specs.List.{range_with_len, before_first, prefix_len, suffix_len}
use Rattle.std.specs.Int.{Width, w32, w64, byte_len, from_be_bytes, cast_signed}
use Rattle.tz_rule.specs.LocalTimeType.{LocalTimeType, type_of, IsLocalTimeType}
use Rattle.tz_rule.specs.declared.timezone.transition_rule.TransitionRule.{TransitionRule}
use Rattle.tz_zone.specs.Bytes.{colon, line_feed}
use Rattle.tz_zone.specs.Table.{Transition, LeapSecond, Zone, zone_with}
use Rattle.tz_zone.specs.TzText.{IsTzText}
use Rattle.tz_zone.specs.ValidZone.{IsPlainTable, IsValidZone}

-- the number that the bytes at a position write, the most significant first; signed in two's
-- complement
unfoldable pub number_at : Width → List ℕ → ℕ → ℕ
number_at w bytes at = from_be_bytes w (take (byte_len w) (drop at bytes))

unfoldable pub signed_at : Width → List ℕ → ℕ → ℤ
signed_at w bytes at = cast_signed w (number_at w bytes at)

-- how many of each the block has (section 3.1)
pub record Counts : Type 0 where
  pub ut_local : ℕ
  pub std_wall : ℕ
  pub leap : ℕ
  pub transition : ℕ
  pub local_type : ℕ
  pub char : ℕ

-- the counts in the header at the front
unfoldable pub counts_of : List ℕ → Counts
counts_of bytes = record {
  ut_local = number_at w32 bytes 20;
  std_wall = number_at w32 bytes 24;
  leap = number_at w32 bytes 28;
  transition = number_at w32 bytes 32;
  local_type = number_at w32 bytes 36;
  char = number_at w32 bytes 40;
}

-- indicators are given for all types or for none
abbrev pub IsIndicatorCount : ℕ → ℕ → Type 0
IsIndicatorCount count types = (count ≡ 0) ⊎ (count ≡ types)

pub record AreCounts (n : Counts) : Type 0 where
  pub some_type : n.local_type ≢ 0
  pub some_char : n.char ≢ 0
  pub ut_locals : IsIndicatorCount n.ut_local n.local_type
  pub std_walls : IsIndicatorCount n.std_wall n.local_type

-- the first bytes are `TZif`
abbrev pub HasMagic : List ℕ → Type 0
HasMagic bytes = take 4 bytes ≡ codes "TZif"

-- the version bytes: 0, and the digits 2, 3 and 4
abbrev pub version_1 : ℕ
version_1 = 0

abbrev pub version_2 : ℕ
version_2 = 50

abbrev pub version_3 : ℕ
version_3 = 51

abbrev pub version_4 : ℕ
version_4 = 52

abbrev pub IsVersion : ℕ → Type 0
IsVersion byte = (byte ≡ version_1) ⊎ (byte ≡ version_2) ⊎ (byte ≡ version_3) ⊎ (byte ≡ version_4)

-- the length of a header
abbrev pub header_len : ℕ
header_len = 44

-- a header stands at the front
pub record IsHeader (bytes : List ℕ) : Type 0 where
  pub whole : header_len ≤ length bytes
  pub magic : HasMagic bytes
  pub version : IsVersion (slice_index bytes 4)
  pub counts : AreCounts (counts_of bytes)

-- where the parts of the block begin after their header, and where the block ends, if times have
-- this width (section 3.2)
abbrev pub indexes_at : Width → Counts → ℕ
indexes_at w n = header_len + n.transition * byte_len w

abbrev pub types_at : Width → Counts → ℕ
types_at w n = indexes_at w n + n.transition

abbrev pub names_at : Width → Counts → ℕ
names_at w n = types_at w n + n.local_type * 6

abbrev pub leaps_at : Width → Counts → ℕ
leaps_at w n = names_at w n + n.char

abbrev pub std_walls_at : Width → Counts → ℕ
std_walls_at w n = leaps_at w n + n.leap * (byte_len w + 4)

abbrev pub ut_locals_at : Width → Counts → ℕ
ut_locals_at w n = std_walls_at w n + n.std_wall

abbrev pub end_at : Width → Counts → ℕ
end_at w n = ut_locals_at w n + n.ut_local

-- the parts of a block
pub record Block : Type 0 where
  pub times : List ℕ
  pub indexes : List ℕ
  pub types : List ℕ
  pub names : List ℕ
  pub leaps : List ℕ
  pub std_walls : List ℕ
  pub ut_locals : List ℕ

-- those of the block after the header at the front
unfoldable pub block_with : Width → Counts → List ℕ → Block
block_with w n bytes = record {
  times = slice_range bytes header_len (indexes_at w n);
  indexes = slice_range bytes (indexes_at w n) (types_at w n);
  types = slice_range bytes (types_at w n) (names_at w n);
  names = slice_range bytes (names_at w n) (leaps_at w n);
  leaps = slice_range bytes (leaps_at w n) (std_walls_at w n);
  std_walls = slice_range bytes (std_walls_at w n) (ut_locals_at w n);
  ut_locals = slice_range bytes (ut_locals_at w n) (end_at w n);
}

-- a header and its whole block stand at the front
pub record IsUnit (w : Width) (bytes : List ℕ) : Type 0 where
  pub header : IsHeader bytes
  pub whole : end_at w (counts_of bytes) ≤ length bytes

-- the bytes after them
unfoldable pub after : Width → List ℕ → List ℕ
after w bytes = drop (end_at w (counts_of bytes)) bytes

-- record i of each table
unfoldable pub change_at : Width → Block → ℕ → Transition
change_at w block i = record {
  unix_leap_time = signed_at w block.times (i * byte_len w);
  type_index =
      slice_index block.indexes i;
}

unfoldable pub leap_at : Width → Block → ℕ → LeapSecond
leap_at w block i = record {
  unix_leap_time = signed_at w block.leaps (i * (byte_len w + 4));
  correction = signed_at w32 block.leaps (i * (byte_len w + 4) + byte_len w);
}

-- a zero byte stands at an index of the name bytes or after it
abbrev pub HasName : List ℕ → ℕ → Type 0
HasName names index = (end : ℕ) × (index ≤ end) × (slice_get names end ≡ Some 0)

-- the name: the bytes from the index up to the first zero byte, where none are no designation
unfoldable pub name_at : List ℕ → ℕ → List ℕ
name_at names index = before_first (λ byte. byte == 0) (drop index names)

unfoldable pub designation_of : List ℕ → Option (List ℕ)
designation_of name = if length name == 0 then None else Some name

unfoldable pub type_at : Block → ℕ → LocalTimeType
type_at block i = type_of
    (signed_at w32 block.types (i * 6))
    (slice_index block.types (i * 6 + 4) == 1)
    (designation_of (name_at block.names (slice_index block.types (i * 6 + 5))))

-- the tables, in their order
unfoldable pub transitions_of : Width → Block → ℕ → List Transition
transitions_of w block count = map (change_at w block) (range_with_len 0 count)

unfoldable pub types_of : Block → ℕ → List LocalTimeType
types_of block count = map (type_at block) (range_with_len 0 count)

unfoldable pub leaps_of : Width → Block → ℕ → List LeapSecond
leaps_of w block count = map (leap_at w block) (range_with_len 0 count)

-- off or on
abbrev pub IsFlag : ℕ → Type 0
IsFlag byte = (byte ≡ 0) ⊎ (byte ≡ 1)

-- type record i
pub record IsTypeRecord (block : Block) (i : ℕ) : Type 0 where
  pub daylight : IsFlag (slice_index block.types (i * 6 + 4))
  pub name : HasName block.names (slice_index block.types (i * 6 + 5))
  pub type : IsLocalTimeType (type_at block i)

-- wall clock or standard time, and UT only with standard time
abbrev pub IsIndicatorPair : ℕ → ℕ → Type 0
IsIndicatorPair std_wall ut_local = ((std_wall ≡ 0) × (ut_local ≡ 0))
    ⊎ ((std_wall ≡ 1) × IsFlag ut_local)

-- the indicators of type i, which are 0 where they are not given
abbrev pub HasIndicators : Block → ℕ → Type 0
HasIndicators block i = IsIndicatorPair (slice_index block.std_walls i)
    (slice_index block.ut_locals i)

-- the content of a block with this many types
pub record IsContent (block : Block) (count : ℕ) : Type 0 where
  pub types : (i : ℕ) → i < count → IsTypeRecord block i
  pub indicators : (i : ℕ) → i < count → HasIndicators block i

-- the unit whose content is read, and what lies after it
pub record Part : Type 0 where
  pub width : Width
  pub version : ℕ
  pub counts : Counts
  pub block : Block
  pub after : List ℕ

abbrev pub part_with : Width → List ℕ → Part
part_with w bytes = record {
  width = w;
  version = slice_index bytes 4;
  counts = counts_of bytes;
  block = block_with w (counts_of bytes) bytes;
  after = after w bytes;
}

-- a file of version 1
abbrev pub IsFirstVersion : List ℕ → Type 0
IsFirstVersion bytes = slice_index bytes 4 ≡ version_1

-- headers and blocks: nothing stands after the first unit in version 1, and a second unit in later
-- ones
pub record IsFramed (bytes : List ℕ) : Type 0 where
  pub first : IsUnit w32 bytes
  pub nothing_after : IsFirstVersion bytes → after w32 bytes ≡ []
  pub second : ¬ IsFirstVersion bytes → IsUnit w64 (after w32 bytes)

-- the unit whose content is read: the only one, or the second, whose times have eight bytes
unfoldable pub part_of : List ℕ → Part
part_of bytes = if slice_index bytes 4 == version_1 then part_with w32 bytes else part_with w64
    (after w32 bytes)

-- what stands after the second one is the footer (section 3.3)
unfoldable pub footer_of : List ℕ → Option (List ℕ)
footer_of bytes = if slice_index bytes 4 == version_1 then None else Some
    (after w64 (after w32 bytes))

-- bytes without the ASCII white space at their ends
unfoldable pub trimmed_start : List ℕ → List ℕ
trimmed_start bytes = drop (prefix_len is_ascii_whitespace bytes) bytes

unfoldable pub trimmed : List ℕ → List ℕ
trimmed bytes = take (length (trimmed_start bytes) - suffix_len is_ascii_whitespace
    (trimmed_start bytes)) (trimmed_start bytes)

-- the first and the last byte are line feeds, which may be one
abbrev pub IsBetweenLineFeeds : List ℕ → Type 0
IsBetweenLineFeeds footer = (slice_get footer 0 ≡ Some line_feed)
    × (slice_get footer (length footer - 1) ≡ Some line_feed)

-- what may stand between them: it does not begin with a colon, and has no zero byte
abbrev pub MayBeText : List ℕ → Type 0
MayBeText text = (slice_get text 0 ≢ Some colon) × ¬ Contains text 0

pub record IsFooter (footer : List ℕ) : Type 0 where
  pub utf8 : IsUtf8 footer
  pub line_feeds : IsBetweenLineFeeds footer
  pub text : MayBeText (trimmed footer)

-- the rule of a footer's text, where none is no rule
abbrev pub IsTextRule : Bool → List ℕ → Option TransitionRule → Type 0
IsTextRule extended text None = text ≡ []
IsTextRule extended text (Some rule) = (text ≢ []) × IsTzText extended text rule

-- the rule after the tables: none in version 1
abbrev pub IsExtraRule : Bool → Option (List ℕ) → Option TransitionRule → Type 0
IsExtraRule extended None rule = rule ≡ None
IsExtraRule extended (Some footer) rule = IsFooter footer
    × IsTextRule extended (trimmed footer) rule

-- texts are extended where the header of the unit that is read is of version 3 or 4 (section 3.3.1)
abbrev pub is_extended : Part → Bool
is_extended p = (p.version == version_3) || (p.version == version_4)

-- leap seconds may begin later or expire where that header is of version 4
abbrev pub MayHold : ℕ → List LeapSecond → Type 0
MayHold version leaps = (version ≡ version_4) ⊎ IsPlainTable leaps

abbrev pub HoldsLeapSeconds : Part → Type 0
HoldsLeapSeconds p = MayHold p.version (leaps_of p.width p.block p.counts.leap)

-- the zone of a part and a rule
abbrev pub zone_of_part : Part → Option TransitionRule → Zone
zone_of_part p rule = zone_with
    (transitions_of p.width p.block p.counts.transition)
    (types_of p.block p.counts.local_type)
    (leaps_of p.width p.block p.counts.leap)
    rule

-- the bytes are a file that denotes the zone
pub record IsTzFile (bytes : List ℕ) (zone : Zone) : Type 0 where
  pub framed : IsFramed bytes
  pub content : IsContent (part_of bytes).block (part_of bytes).counts.local_type
  pub leap_seconds : HoldsLeapSeconds (part_of bytes)
  pub rule : IsExtraRule (is_extended (part_of bytes)) (footer_of bytes) zone.extra_rule
  pub denotes : zone ≡ zone_of_part (part_of bytes) zone.extra_rule
  pub valid : IsValidZone zone
