-- How many entries the tables of a TZif file have. (RFC 8536, section 3.1)
use Rattle.std.specs.Prelude.{◌≡◌, ℕ, List, Option, Some, None, length}
use Rattle.tz_zone.specs.TzFile.{part_of, footer_of}
use Rattle.tz_zone.specs.declared.parse.tz_file.FileSizes.{FileSizes}

-- the length of a footer, if there is one
abbrev pub footer_length : Option (List ℕ) → ℕ
footer_length None = 0
footer_length (Some footer) = length footer

-- the sizes are those of the unit that is read, and of the footer after it
pub record AreSizesOf (bytes : List ℕ) (sizes : FileSizes) : Type 0 where
  pub transitions_are : sizes.transitions ≡ (part_of bytes).counts.transition
  pub types_are : sizes.local_time_types ≡ (part_of bytes).counts.local_type
  pub leap_seconds_are : sizes.leap_seconds ≡ (part_of bytes).counts.leap
  pub footer_is : sizes.footer ≡ footer_length (footer_of bytes)
