-- The answers of query lines.
use Rattle.std.specs.Prelude.{◌≡◌, ◌≢◌, ℕ, ◌+◌, ⊤, ◌⊎◌, ℤ, List, [], ◌∷◌, ◌++◌, length, map, codes}
use Rattle.std.specs.Fmt.{decimal}
use Rattle.std.specs.List.{All, AllZip, flat_map}
use Rattle.tz_base.specs.Fields.{IsFirstFault, IsValid, IsReading, reading}
use Rattle.tz_base.specs.declared.fields.Fields.{Fields}
use Rattle.tz_base.specs.declared.error.TzError.{TzError}
use Rattle.tz_base.specs.declared.error.TzError.TheVariants.{DateTime as FieldFault, OutOfRange, NoAvailableLocalTimeType}
use Rattle.tz_base.specs.declared.error.DateTimeError.{DateTimeError}
use Rattle.tz_base.specs.declared.error.DateTimeError.TheVariants.{InvalidMonth, InvalidMonthDay, InvalidHour, InvalidMinute, InvalidSecond, InvalidNanoseconds}
use Rattle.tz_zone.specs.Clock.{IsClock}
use Rattle.tz_zone.specs.Table.{Zone}
use Rattle.tz_zone.specs.TzFile.{IsTzFile}
use Rattle.tz.specs.DateTimes.{DateTime, ShowsByClock, IsClockFault}
use Rattle.tz.specs.FindFaults.{IsFindFault}
use Rattle.tz.specs.Found.{EachCanBeMade, IsFound}
use Rattle.tz.specs.PrintedText.{moment_text}
use Rattle.tz.specs.declared.datetime.found.FoundDateTimeKind.{FoundDateTimeKind}
use Rattle.tz.specs.declared.datetime.found.FoundDateTimeKind.TheVariants.{Normal, Skipped}
use Rattle.tz_query.specs.Lines.{AreLines, ended}
use Rattle.tz_query.specs.Numbers.{space}
use Rattle.tz_query.specs.declared.query.read_query.Query.{Query}
use Rattle.tz_query.specs.declared.query.read_query.Query.TheVariants.{Time, Search, Meeting}
use Rattle.tz_query.specs.Queries.{IsQueryLine}
use Rattle.tz_query.specs.MeetingDates.{IsInYears, IsWeekOf, day_after}

-- a refused field has its variant's name
abbrev pub field_fault_text : DateTimeError → List ℕ
field_fault_text InvalidMonth = codes "InvalidMonth"
field_fault_text InvalidMonthDay = codes "InvalidMonthDay"
field_fault_text InvalidHour = codes "InvalidHour"
field_fault_text InvalidMinute = codes "InvalidMinute"
field_fault_text InvalidSecond = codes "InvalidSecond"
field_fault_text InvalidNanoseconds = codes "InvalidNanoseconds"

-- a refusal that an answer names has its innermost variant's name
abbrev pub IsFaultText : TzError → List ℕ → Type 0
IsFaultText (FieldFault fault) text = text ≡ field_fault_text fault
IsFaultText OutOfRange text = text ≡ codes "OutOfRange"
IsFaultText NoAvailableLocalTimeType text = text ≡ codes "NoAvailableLocalTimeType"
IsFaultText _ text = ⊥

-- the answer line of an instant: the date time that the clock shows, or why it shows none
abbrev pub IsTimeAnswer : Zone → ℤ → ℕ → List ℕ → Type 0
IsTimeAnswer z u n answer =
    ((d : DateTime) × ShowsByClock z u n d × IsReading (reading d.fields)
    × (answer ≡ moment_text d))
    ⊎ ((e : TzError) × (text : List ℕ) × IsClockFault z u n e × IsFaultText e text
    × (answer ≡ codes "E " ++ text))

-- what is found: a date time that the clock shows, or a jump of the clock, before it and after it
abbrev pub entry_text : FoundDateTimeKind → List ℕ
entry_text (Normal d) = codes "N " ++ moment_text d
entry_text (Skipped before after) = codes "S " ++ (moment_text before ++ space ∷ moment_text after)

-- how much is found, and a line for each
abbrev pub found_lines : List FoundDateTimeKind → List (List ℕ)
found_lines found = (codes "F " ++ decimal (length found)) ∷ map entry_text found

-- the answer lines of fields: all that a search finds of the zone's clock, if each entry can be
-- made, or why it is refused, which an allocation failure does not answer
abbrev pub IsSearchAnswer : Zone → Fields → List (List ℕ) → Type 0
IsSearchAnswer z f answer =
    ((found : List FoundDateTimeKind) × IsValid f × IsFound (IsClock z) f found
    × EachCanBeMade (IsClock z) f × (answer ≡ found_lines found))
    ⊎ ((e : TzError) × (text : List ℕ) × IsFindFault ⊥ (IsClock z) f e × IsFaultText e text
    × (answer ≡ (codes "E " ++ text) ∷ []))

-- the answer lines of a week of a meeting: those of its fields, or that no year of 32 bits has its
-- day
abbrev pub IsWeekAnswer : Zone → Fields → ℕ → List (List ℕ) → Type 0
IsWeekAnswer z f weeks answer =
    ((g : Fields) × IsInYears (day_after f weeks) × IsWeekOf f weeks g × IsSearchAnswer z g answer)
    ⊎ (¬ IsInYears (day_after f weeks) × (answer ≡ codes "E OutOfRange" ∷ []))

-- the answer lines of weeks in turn, the first of them this many weeks after the fields
abbrev pub AreWeekAnswers : Zone → Fields → ℕ → List (List (List ℕ)) → Type 0
AreWeekAnswers z f weeks [] = ⊤
AreWeekAnswers z f weeks (answer ∷ answers) = IsWeekAnswer z f weeks answer
    × AreWeekAnswers z f (weeks + 1) answers

-- how many weeks, and the lines of each
abbrev pub meeting_lines : List (List (List ℕ)) → List (List ℕ)
meeting_lines weeks = (codes "W " ++ decimal (length weeks))
    ∷ flat_map (λ (week : List (List ℕ)). week) weeks

-- the answer lines of a meeting: those of this many weeks, or the first fault of its fields
abbrev pub IsMeetingAnswer : Zone → ℕ → Fields → List (List ℕ) → Type 0
IsMeetingAnswer z count f answer =
    (IsValid f × (weeks : List (List (List ℕ))) × (length weeks ≡ count)
    × AreWeekAnswers z f 0 weeks × (answer ≡ meeting_lines weeks))
    ⊎ ((fault : DateTimeError) × IsFirstFault f fault
    × (answer ≡ (codes "E " ++ field_fault_text fault) ∷ []))

-- the answer lines of a query
abbrev pub IsQueryAnswer : Zone → Query → List (List ℕ) → Type 0
IsQueryAnswer z (Time u n) answer = (text : List ℕ) × IsTimeAnswer z u n text × (answer ≡ text ∷ [])
IsQueryAnswer z (Search f) answer = IsSearchAnswer z f answer
IsQueryAnswer z (Meeting count f) answer = IsMeetingAnswer z count f answer

-- the answer lines of a line: those of its query, or that it is outside the grammar
abbrev pub IsAnswer : Zone → List ℕ → List (List ℕ) → Type 0
IsAnswer z line answer =
    ((query : Query) × IsQueryLine line query × IsQueryAnswer z query answer)
    ⊎ (((query : Query) → ¬ IsQueryLine line query) × (answer ≡ codes "E Line" ∷ []))

-- the bytes answer the query bytes: each line in turn, each answer line ended by LF
pub record AreAnswers (z : Zone) (queries bytes : List ℕ) : Type 0 where
  pub lines : List (List ℕ)
  pub answers : List (List (List ℕ))
  pub cut : AreLines queries lines
  pub each : AllZip (IsAnswer z) lines answers
  pub written : bytes ≡ flat_map ended answers

-- the file denotes a zone, and the bytes answer the query bytes over it
abbrev pub AreFileAnswers : List ℕ → List ℕ → List ℕ → Type 0
AreFileAnswers file queries bytes = (zone : Zone) × IsTzFile file zone
    × AreAnswers zone queries bytes

-- a line that announces no lines after it: neither `F` nor `W` begins it, with a space
abbrev pub IsSingle : List ℕ → Type 0
IsSingle text = ((rest : List ℕ) → text ≢ codes "F " ++ rest)
    × ((rest : List ℕ) → text ≢ codes "W " ++ rest)

-- a group of the answer lines of an instant or of a search: such a line, or `F` with the number of
-- the lines after it
abbrev pub IsSearchGroup : List (List ℕ) → Type 0
IsSearchGroup answer =
    ((text : List ℕ) × IsSingle text × (answer ≡ text ∷ []))
    ⊎ ((entries : List (List ℕ)) × (answer ≡ (codes "F " ++ decimal (length entries)) ∷ entries))

-- a group of answer lines: that, or `W` with the number of such groups after it
abbrev pub IsGroup : List (List ℕ) → Type 0
IsGroup answer = IsSearchGroup answer
    ⊎ ((weeks : List (List (List ℕ))) × All IsSearchGroup weeks × (answer ≡ meeting_lines weeks))
