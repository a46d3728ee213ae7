-- The name of a local time type is short, and ASCII.
use Rattle.std.proofs.Common.{arith, [], ℕ, ◌∷◌, ◌<◌, ◌≤◌, List, length, Option, Some, None}
use Rattle.std.specs.Prelude.{IfSome, IsAscii, All, unwrap_or}
use Rattle.std.proofs.lemmas.List.Elements.{All-head, All-tail}
use Rattle.std.proofs.lemmas.Str.Ascii.{IsAscii-cons, IsAscii-nil}
use Rattle.tz_rule.specs.LocalTimeType.{IsDesignation, IsDesignationByte}

byte_ascii : (byte : ℕ) → IsDesignationByte byte → byte < 128
byte_ascii byte is = omega (arith, is)

bytes_ascii : (name : List ℕ) → All IsDesignationByte name → IsAscii name
bytes_ascii [] all = IsAscii-nil
bytes_ascii (byte ∷ name) all = IsAscii-cons byte name (byte_ascii byte
    (All-head IsDesignationByte byte name all)) (bytes_ascii name (All-tail IsDesignationByte byte name all))

pub designation_short : (name : Option (List ℕ)) → IfSome name IsDesignation → length (unwrap_or name []) ≤ 7
designation_short None is = omega arith
designation_short (Some name) is = is.length_is.1

pub designation_ascii : (name : Option (List ℕ)) → IfSome name IsDesignation → IsAscii (unwrap_or name [])
designation_ascii None is = IsAscii-nil
designation_ascii (Some name) is = bytes_ascii name is.bytes_are
