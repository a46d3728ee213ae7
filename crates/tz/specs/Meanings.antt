-- What a local time means in a zone: how often clocks show it, and whether they are set forward
-- over it.
use Rattle.std.specs.Prelude.{◌≡◌, ◌≢◌, List, [], ◌∷◌, length, Some, None}
use Rattle.tz_base.specs.declared.fields.Fields.{Fields}
use Rattle.tz_base.specs.Fields.{reading}
use Rattle.tz_zone.specs.Clock.{IsClock}
use Rattle.tz_zone.specs.Table.{Zone}
use Rattle.tz.specs.DateTimes.{DateTime, ShowsByClock}
use Rattle.tz.specs.Found.{IsFound}
use Rattle.tz.specs.Choices.{instant_meant, IsMeaning}
use Rattle.tz.specs.declared.datetime.disambiguation.Disambiguation.{Disambiguation}
use Rattle.tz.specs.declared.datetime.disambiguation.Disambiguation.TheVariants.{Compatible, Earlier, Later, Reject}
use Rattle.tz.specs.declared.datetime.found.FoundDateTimeKind.{FoundDateTimeKind}
use Rattle.tz.specs.declared.datetime.found.FoundDateTimeKind.TheVariants.{Normal, Skipped}
use Rattle.tz.specs.declared.datetime.meaning.Meaning.{Meaning}
use Rattle.tz.specs.declared.datetime.meaning.Meaning.TheVariants.{Nothing, Once, Twice, Skipped as Gap, More}

-- by the number of entries and their kinds
abbrev pub meaning_of : List FoundDateTimeKind → Meaning
meaning_of [] = Nothing
meaning_of (Normal d ∷ []) = Once d
meaning_of (Skipped before after ∷ []) = Gap before after
meaning_of (Normal first ∷ Normal last ∷ []) = Twice first last
meaning_of found = More (length found)

-- the meaning of fields is that of the list of all that is found
abbrev pub HasMeaning : Zone → Fields → Meaning → Type 0
HasMeaning z f meaning = (found : List FoundDateTimeKind) × IsFound (IsClock z) f found
    × (meaning ≡ meaning_of found)

-- what each choice gives of fields with this meaning; in a gap, what clocks show at another instant
abbrev pub ChoicesAgree : Zone → Fields → Meaning → Type 0
ChoicesAgree z f Nothing = (choice : Disambiguation) → IsMeaning z choice f None
ChoicesAgree z f (Once d) = (choice : Disambiguation) → IsMeaning z choice f (Some d)
ChoicesAgree z f (Twice first last) =
    IsMeaning z Compatible f (Some first) × IsMeaning z Earlier f (Some first)
    × IsMeaning z Later f (Some last) × IsMeaning z Reject f None
ChoicesAgree z f (Gap before after) =
    IsMeaning z Reject f None
    × ((choice : Disambiguation) (d : DateTime) → choice ≢ Reject
    → ShowsByClock z (instant_meant choice (reading f) before after) f.nanoseconds d
    → IsMeaning z choice f (Some d))
ChoicesAgree z f (More count) = IsMeaning z Reject f None
