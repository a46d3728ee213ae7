-- What the reader of files gives.
use Rattle.std.specs.Prelude.{◌≡◌, ℕ, ◌≤◌, List, length}
use Rattle.std.specs.Io.KnownBytes.{Consumes, IsAtEnd}
use Rattle.std.specs.declared.option.Option.{Option}
use Rattle.anyhow.specs.declared.error.Error.{Error}
use Rattle.tz_base.specs.declared.error.ReadFault.{ReadFault}
use Rattle.tz_base.specs.declared.error.ReadFault.TheVariants.{Failed}

-- the file could not be read
abbrev pub IsFailed : ReadFault → Type 0
IsFailed e = (fault : Error) × (e ≡ Failed fault)

-- a file of this type had these bytes left, and was read to its end; where the bytes of a file are
-- not known, only that there was one
abbrev pub IsReadOut : {F : Type 0} → (F → Option (List ℕ)) → List ℕ → Type 0
IsReadOut {F} remaining bytes = (opened : F) × (ended : F)
    × Consumes (remaining opened) (remaining ended) bytes × IsAtEnd (remaining ended)

-- at most this many bytes were taken
abbrev pub TakesAtMost : ℕ → Option (List ℕ) → Option (List ℕ) → Type 0
TakesAtMost most old new = (bytes : List ℕ) × Consumes old new bytes × (length bytes ≤ most)

-- the same of a file that has no more bytes than the limit
abbrev pub IsReadOutUpTo : {F : Type 0} → ℕ → (F → Option (List ℕ)) → List ℕ → Type 0
IsReadOutUpTo limit remaining bytes = IsReadOut remaining bytes × (length bytes ≤ limit)
