-- Which zone a text gives by the settings: that of a TZif file, or that of a TZ string.
-- (POSIX.1-2017, Base Definitions, 8.3: TZ. The directories, `localtime` and a leading colon are as
-- in tz-rs.) Of the reader of files it is known what it can answer for a path; where it can answer
-- several things, so can the settings.
use Rattle.std.specs.Prelude.{◌≡◌, ◌≢◌, ℕ, ◌⊎◌, false, List, [], ◌∷◌, ◌++◌, map, Result, Ok, Err, Some, Vec, vec_items, alloc_error, codes}
use Rattle.std.specs.Borrow.{Bor}
use Rattle.std.specs.Str.{IsTrimAscii}
use Rattle.std.specs.declared.alloc.Global.{Global}
use Rattle.anyhow.specs.declared.error.Error.{Error as Fault}
use Rattle.tz_base.specs.declared.error.Error.{Error}
use Rattle.tz_base.specs.declared.error.Error.TheVariants.{Io, Tz}
use Rattle.tz_base.specs.declared.error.ReadFault.{ReadFault}
use Rattle.tz_base.specs.declared.error.ReadFault.TheVariants.{Memory, Failed}
use Rattle.tz_base.specs.declared.error.TzError.{TzError}
use Rattle.tz_base.specs.declared.error.TzError.TheVariants.{TzString, Memory as NoMemory}
use Rattle.tz_base.specs.declared.error.TzStringError.TheVariants.{Empty}
use Rattle.tz_rule.specs.declared.timezone.transition_rule.TransitionRule.{TransitionRule}
use Rattle.tz_rule.specs.declared.timezone.transition_rule.TransitionRule.TheVariants.{Fixed, Alternate}
use Rattle.tz_zone.specs.Bytes.{colon, slash}
use Rattle.tz_zone.specs.Table.{Zone, zone_with}
use Rattle.tz_zone.specs.TzFile.{IsTzFile}
use Rattle.tz_zone.specs.TzFileFault.{FileFails}
use Rattle.tz_zone.specs.TzText.{Begins, IsTzText}
use Rattle.tz_zone.specs.TzTextFault.{IsTzTextFault}

-- what a reader answers for a path
abbrev pub Read : Type 0
Read = Result (Vec ℕ Global) ReadFault

-- what is answered for a text
abbrev pub Answer : Type 0
Answer = Result Zone Error

-- `localtime`, and the file of it
abbrev pub local_time : List ℕ
local_time = codes "localtime"

abbrev pub local_time_file : List ℕ
local_time_file = codes "/etc/localtime"

-- the path of a name in a directory
abbrev pub path_in : List ℕ → List ℕ → List ℕ
path_in directory name = directory ++ slash ∷ name

-- what can be found in the directories in turn: bytes and an allocation failure end the search, a
-- failure goes on
abbrev pub FindsIn : (List ℕ → Read → Type 0) → List (List ℕ) → List ℕ → Read → Type 0
FindsIn reads [] name found = (fault : Fault) × (found ≡ Err (Failed fault))
FindsIn reads (directory ∷ directories) name found =
    ((bytes : Vec ℕ Global) × (found ≡ Ok bytes) × reads (path_in directory name) found)
    ⊎ ((found ≡ Err (Memory alloc_error)) × reads (path_in directory name) found)
    ⊎ ((fault : Fault) × reads (path_in directory name) (Err (Failed fault))
    × FindsIn reads directories name found)

-- what can be found for a name: an absolute one is a path
abbrev pub Finds : (List ℕ → Read → Type 0) → List (List ℕ) → List ℕ → Read → Type 0
Finds reads directories name found = (Begins slash name × reads name found)
    ⊎ (¬ Begins slash name × FindsIn reads directories name found)

-- the answer of the TZif reader for bytes: the zone of a file, or a fault of bytes that are none;
-- an allocation failure is left to the calls
abbrev pub IsFileAnswer : List ℕ → Answer → Type 0
IsFileAnswer bytes (Ok zone) = IsTzFile bytes zone
IsFileAnswer bytes (Err e) = ((zone : Zone) → ¬ IsTzFile bytes zone) × (f : TzError) × (e ≡ Tz f)
    × FileFails bytes f

-- what was found is opened, and a fault is passed on
abbrev pub Opens : Read → Answer → Type 0
Opens (Ok bytes) answer = IsFileAnswer (vec_items bytes) answer
Opens (Err (Memory _)) answer = answer ≡ Err (Tz (NoMemory alloc_error))
Opens (Err (Failed fault)) answer = answer ≡ Err (Io fault)

-- the zone of a rule has the rule's types and no tables
abbrev pub rule_zone : TransitionRule → Zone
rule_zone (Fixed type) = zone_with [] (type ∷ []) [] (Some (Fixed type))
rule_zone (Alternate rule) = zone_with [] (rule.std ∷ rule.dst ∷ []) [] (Some (Alternate rule))

-- the answer of the reader of ordinary TZ strings, without white space at both ends: the zone of a
-- text, or a fault of one that is none
abbrev pub IsTextAnswer : List ℕ → Answer → Type 0
IsTextAnswer text (Ok zone) =
    (trimmed : List ℕ) × IsTrimAscii text trimmed × (rule : TransitionRule)
    × IsTzText false trimmed rule × (zone ≡ rule_zone rule)
IsTextAnswer text (Err e) =
    (trimmed : List ℕ) × IsTrimAscii text trimmed × ((rule : TransitionRule)
    → ¬ IsTzText false trimmed rule)
    × (f : TzError) × (e ≡ Tz f) × IsTzTextFault false trimmed f

-- what was found is opened, and where nothing was found the name is read as a TZ string
abbrev pub OpensOrReads : List ℕ → Read → Answer → Type 0
OpensOrReads text (Ok bytes) answer = Opens (Ok bytes) answer
OpensOrReads text (Err (Memory e)) answer = Opens (Err (Memory e)) answer
OpensOrReads text (Err (Failed fault)) answer = IsTextAnswer text answer

-- the answer for the machine's local time
abbrev pub IsLocalAnswer : (List ℕ → Read → Type 0) → Answer → Type 0
IsLocalAnswer reads answer = (found : Read) × reads local_time_file found × Opens found answer

-- the answer for a name after a colon
abbrev pub IsNamedAnswer : (List ℕ → Read → Type 0) → List (List ℕ) → List ℕ → Answer → Type 0
IsNamedAnswer reads directories name answer = (found : Read) × Finds reads directories name found
    × Opens found answer

-- the answer for any other text
abbrev pub IsNamedOrTextAnswer : (List ℕ → Read → Type 0) → List (List ℕ) → List ℕ → Answer → Type 0
IsNamedOrTextAnswer reads directories text answer = (found : Read)
    × Finds reads directories text found × OpensOrReads text found answer

-- the answer for a text: the empty one is refused
abbrev pub IsSettingsAnswer : (List ℕ → Read → Type 0) → List (List ℕ) → List ℕ → Answer → Type 0
IsSettingsAnswer reads directories text answer =
    ((text ≡ []) × (answer ≡ Err (Tz (TzString Empty))))
    ⊎ ((text ≡ local_time) × IsLocalAnswer reads answer)
    ⊎ ((name : List ℕ) × (text ≡ colon ∷ name) × IsNamedAnswer reads directories name answer)
    ⊎ ((text ≢ []) × (text ≢ local_time) × ¬ Begins colon text
    × IsNamedOrTextAnswer reads directories text answer)

-- the texts that are referred to
abbrev pub texts_of : List (Bor (List ℕ)) → List (List ℕ)
texts_of texts = map (λ text. text.now) texts
