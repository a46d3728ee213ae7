-- Why a run of the program ends with status 1.
use Rattle.std.specs.Prelude.{◌≡◌, ℕ, ◌⊎◌, ℤ, List, [], ◌∷◌, ◌++◌, Option, Ok, Err, Vec, alloc_error, codes, FitsSigned}
use Rattle.std.specs.Int.{w32}
use Rattle.std.specs.declared.alloc.Global.{Global}
use Rattle.anyhow.specs.declared.error.Error.{Error as Fault}
use Rattle.tz_base.specs.declared.error.Error.TheVariants.{Io}
use Rattle.tz_base.specs.declared.error.ReadFault.TheVariants.{Failed, Memory}
use Rattle.tz_zone.specs.Settings.{Read, IsSettingsAnswer}
use Rattle.tz_zone.specs.Table.{Zone}
use Rattle.tz_query.specs.Numbers.{IsNumber}
use Rattle.tz_query.specs.Program.{NamesZone, usual_directories}
use Rattle.tz_query.specs.Lines.{line_feed}
use Rattle.tz_query.specs.Streams.{WritesFront, WritesFrontOfAnswers}
use Rattle.tz_query.specs.declared.query.streams.RunFault.{RunFault}
use Rattle.tz_query.specs.declared.query.streams.RunFault.TheVariants as runs

-- two arguments of which something holds
abbrev pub AreTwo : List (List ℕ) → (List ℕ → List ℕ → Type 0) → Type 0
AreTwo arguments hold =
    (option : List ℕ) × (value : List ℕ) × (arguments ≡ option ∷ value ∷ []) × hold option value

-- a number of 32 bits
abbrev pub IsOffsetText : List ℕ → Type 0
IsOffsetText number = (offset : ℤ) × IsNumber number offset × FitsSigned w32 offset

-- the arguments are an option and its value: any text, but after `-o` a number
abbrev pub AreArguments : List (List ℕ) → Type 0
AreArguments arguments =
    AreTwo arguments (λ option value.
    ((option ≡ codes "-o") × IsOffsetText value) ⊎ (option ≡ codes "-f") ⊎ (option ≡ codes "-z"))

-- the reader can fail at the file that the arguments name
abbrev pub NamesUnreadFile : (List ℕ → Read → Type 0) → List (List ℕ) → Type 0
NamesUnreadFile reads arguments =
    AreTwo arguments (λ option value.
    ((option ≡ codes "-f") × ((fault : Fault) × reads value (Err (Failed fault))))
    ⊎ ((option ≡ codes "-z")
    × ((fault : Fault) × IsSettingsAnswer reads usual_directories value (Err (Io fault)))))

-- the line of a run that ends without all answers
abbrev pub line_of : RunFault → List ℕ
line_of runs.Read = codes "tzq: cannot read queries\n"
line_of runs.Memory = codes "tzq: no memory\n"
line_of runs.Write = codes "tzq: cannot write answers\n"

-- the zone of the arguments can run out of memory: of a file, its reader had no memory, or returned
-- bytes
abbrev pub LacksMemory : (List ℕ → Read → Type 0) → List (List ℕ) → Type 0
LacksMemory reads arguments =
    AreTwo arguments (λ option value.
    ((option ≡ codes "-o") × IsOffsetText value)
    ⊎ ((option ≡ codes "-f") × (reads value (Err (Memory alloc_error))
    ⊎ ((bytes : Vec ℕ Global) × reads value (Ok bytes))))
    ⊎ (option ≡ codes "-z"))

-- what a run over a zone has written when it ends by a fault: nothing, or where a write failed a
-- front of the answers of all that was read
abbrev pub HasEnded : {W : Type 0} → (W → Option (List ℕ)) → Option (List ℕ) → Option (List ℕ)
    → W → W → Zone → RunFault → Type 0
HasEnded contents unread left old new zone runs.Read = new ≡ old
HasEnded contents unread left old new zone runs.Memory = new ≡ old
HasEnded contents unread left old new zone runs.Write =
    WritesFrontOfAnswers zone unread left (contents old) (contents new)

-- the reason for status 1, whose line is written to the error output, or a front of it. Without a
-- run, input and output are kept
abbrev pub IsFailure : (List ℕ → Read → Type 0) → List (List ℕ) → Type 0
    → (Zone → RunFault → Type 0) → Option (List ℕ) → Option (List ℕ) → Type 0
IsFailure reads arguments kept ended before now =
    (¬ AreArguments arguments × kept × WritesFront (codes "tzq: bad arguments\n") before now)
    ⊎ (NamesUnreadFile reads arguments × kept
    × WritesFront (codes "tzq: cannot read file\n") before now)
    ⊎ (LacksMemory reads arguments × kept
    × WritesFront (codes "tzq: no memory\n") before now)
    ⊎ ((zone : Zone) × NamesZone reads arguments zone
    × (fault : RunFault) × ended zone fault × WritesFront (line_of fault) before now)

-- the line of a refused zone, which ends with the text of an error, or a front of it
abbrev pub IsRefusal : Option (List ℕ) → Option (List ℕ) → Type 0
IsRefusal before now = (text : List ℕ)
    × WritesFront (codes "tzq: zone refused: " ++ (text ++ line_feed ∷ [])) before now
