-- What the reader of TZif files answers.
use Rattle.std.specs.Prelude.{◌≡◌, ◌⊎◌, ℕ, ◌≤◌, List, length, alloc_error}
use Rattle.tz_base.specs.declared.error.TzError.{TzError}
use Rattle.tz_base.specs.declared.error.TzError.TheVariants.{Memory}
use Rattle.tz_rule.specs.LocalTimeType.{LocalTimeType}
use Rattle.tz_zone.specs.Offsets.{AreEndOffsets}
use Rattle.tz_zone.specs.Table.{LeapSecond, Transition, Zone, zone_with}
use Rattle.tz_zone.specs.TzFile.{IsTzFile}
use Rattle.tz_zone.specs.TzFileFault.{IsReadFault}
use Rattle.tz_zone.specs.declared.parse.tz_file.FileSizes.{FileSizes}
use Rattle.tz_c.specs.Codes.{buffer_length, code_of}
use Rattle.tz_c.specs.declared.zones.OffsetsData.{OffsetsData}
use Rattle.tz_c.specs.RuleData.{rule_given}
use Rattle.tz_c.specs.declared.rule_data.RuleData.{RuleData}

-- the zone that is written
abbrev pub zone_written : List Transition → List LocalTimeType → List LeapSecond → RuleData → Zone
zone_written transitions types leap_seconds rule =
    zone_with transitions types leap_seconds (rule_given rule)

-- two zones have tables of the same lengths
pub record HaveSameLengths (a b : Zone) : Type 0 where
  pub transitions_are : length a.transitions ≡ length b.transitions
  pub types_are : length a.types ≡ length b.types
  pub leap_seconds_are : length a.leap_seconds ≡ length b.leap_seconds

-- the zone of the file and its end offsets are written, with a kind of rule that there is, or the
-- tables of the file have other lengths than the slices, or the bytes are no file
abbrev pub IsReadAnswer : List ℕ → ℕ → Zone → ℕ → OffsetsData → Type 0
IsReadAnswer bytes code z kind offsets =
    ((code ≡ 0) × IsTzFile bytes z × (kind ≤ 2) × AreEndOffsets z offsets.least offsets.greatest)
    ⊎ ((code ≡ buffer_length) × ((zone : Zone) × IsTzFile bytes zone × ¬ HaveSameLengths zone z))
    ⊎ ((e : TzError) × (code ≡ code_of e) × IsReadFault bytes e)

-- for a file of a zone nothing else is answered: the zone is written, or its tables have other
-- lengths than the slices, or memory is out
abbrev pub IsOnlyReadAnswer : Zone → ℕ → Zone → Type 0
IsOnlyReadAnswer zone code z =
    ((code ≡ 0) × (z ≡ zone))
    ⊎ ((code ≡ buffer_length) × ¬ HaveSameLengths zone z)
    ⊎ (code ≡ code_of (Memory alloc_error))

-- slices have the lengths of a file's tables
pub record AreOfSizes (sizes : FileSizes) (transitions : List Transition)
    (types : List LocalTimeType) (leap_seconds : List LeapSecond) : Type 0 where
  pub transitions_are : length transitions ≡ sizes.transitions
  pub types_are : length types ≡ sizes.local_time_types
  pub leap_seconds_are : length leap_seconds ≡ sizes.leap_seconds

-- a reading of the file of a zone into such slices, or into others: these are refused, and those
-- are not, unless memory is out
abbrev pub IsReadBySizes : ℕ → Type 0 → Type 0
IsReadBySizes code sized =
    ((code ≡ 0) × sized)
    ⊎ ((code ≡ buffer_length) × ¬ sized)
    ⊎ (code ≡ code_of (Memory alloc_error))
