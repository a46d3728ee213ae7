-- Names of the time zone database, and the paths at which the file of one is looked for. (tz
-- database, Theory and pragmatics of the tz code and data: Timezone identifiers. POSIX.1-2017, Base
-- Definitions, 3.282: the portable file name character set, and `+`.)
use Rattle.std.specs.Prelude.{◌≡◌, ◌≢◌, ℕ, ◌≤◌, ◌==◌, ◌⊎◌, List, [], ◌∷◌, ◌++◌, All, Contains, Ok, Err, codes}
use Rattle.std.specs.List.{slice_split}
use Rattle.std.specs.Borrow.{Bor}
use Rattle.std.specs.Fn.{Shared}
use Rattle.std.specs.Fmt.Cut.{IsTextOrCut}
use Rattle.anyhow.specs.Error.{error_message, text_room}
use Rattle.anyhow.specs.declared.error.Error.{Error as Fault}
use Rattle.tz_base.specs.declared.error.Error.TheVariants.{Io}
use Rattle.tz_base.specs.declared.error.ReadFault.TheVariants.{Memory, Failed}
use Rattle.tz_zone.specs.Bytes.{dot, slash}
use Rattle.tz_zone.specs.Settings.{Read, Answer, FindsIn, Opens, path_in}

-- an ASCII digit, an ASCII letter, `.`, `_`, `+` or `-`
abbrev pub IsZoneNameByte : ℕ → Type 0
IsZoneNameByte b = ((48 ≤ b) × (b ≤ 57)) ⊎ ((65 ≤ b) × (b ≤ 90)) ⊎ ((97 ≤ b) × (b ≤ 122)) ⊎ (b ≡ 46)
    ⊎ (b ≡ 95) ⊎ (b ≡ 43) ⊎ (b ≡ 45)

-- a part of a name: neither the directory itself nor the one above it
pub record IsZoneNamePart (part : List ℕ) : Type 0 where
  pub some : part ≢ []
  pub bytes : All IsZoneNameByte part
  pub not_here : part ≢ dot ∷ []
  pub not_above : part ≢ dot ∷ dot ∷ []

-- a name: parts that `/` separates
abbrev pub IsZoneName : List ℕ → Type 0
IsZoneName name = All IsZoneNamePart (slice_split (λ b. b == slash) name)

-- a function may be called at these paths; nothing is said of any other
abbrev pub IsCallableAt : {F R : Type 0} → Shared F (Bor (List ℕ) × Unit {0}) R → F
    → (List ℕ → Type 0) → Type 0
IsCallableAt calls f Paths = (path : Bor (List ℕ)) → Paths path.now → calls.pre f (path, tt)

-- the path of the name in one of the directories
abbrev pub IsPathIn : List (List ℕ) → List ℕ → List ℕ → Type 0
IsPathIn directories name path = (directory : List ℕ) × Contains directories directory
    × (path ≡ path_in directory name)

-- the paths that may be asked for: those of a name, and none of a text that is no name
abbrev pub IsPathOfName : List (List ℕ) → List ℕ → List ℕ → Type 0
IsPathOfName directories name path = IsZoneName name × IsPathIn directories name path

-- the text of an error: these words and the name, or any text that ends in three dots. `anyhow`
-- says no more of a text, even if it is short: `IsZoneName` decides which of two refusals an error
-- is, and not its text
abbrev pub SaysOfName : List ℕ → List ℕ → Fault → Type 0
SaysOfName words name fault = IsTextOrCut text_room (words ++ name) (error_message fault)

-- the answer where a text is no name, and where no directory has a file of the name
abbrev pub IsNoName : List ℕ → Answer → Type 0
IsNoName name answer = (fault : Fault) × SaysOfName (codes "not a time zone name: ") name fault
    × (answer ≡ Err (Io fault))

abbrev pub IsNoZone : List ℕ → Answer → Type 0
IsNoZone name answer = (fault : Fault) × SaysOfName (codes "no time zone has the name ") name fault
    × (answer ≡ Err (Io fault))

-- what was found is opened, and where nothing was found no zone has the name
abbrev pub OpensNamed : List ℕ → Read → Answer → Type 0
OpensNamed name (Ok bytes) answer = Opens (Ok bytes) answer
OpensNamed name (Err (Memory e)) answer = Opens (Err (Memory e)) answer
OpensNamed name (Err (Failed fault)) answer = IsNoZone name answer

-- the answer for a text that is taken as a name
abbrev pub IsZoneNameAnswer : (List ℕ → Read → Type 0) → List (List ℕ) → List ℕ → Answer → Type 0
IsZoneNameAnswer reads directories name answer =
    (¬ IsZoneName name × IsNoName name answer)
    ⊎ (IsZoneName name × (found : Read) × FindsIn reads directories name found
    × OpensNamed name found answer)
