-- What is written.
use Rattle.std.specs.Prelude.{◌≡◌, ℕ, ℤ, ◌≤ℤ◌, List, ◌++◌}
use Rattle.tz_zone.specs.Clock.{IsClock}
use Rattle.tz_zone.specs.ZoneRef.{zone_of}
use Rattle.tz_query.specs.Answers.{IsQueryAnswer}
use Rattle.tz_query.specs.Lines.{ended}
use Rattle.tz_query.specs.declared.query.answers.Answers.{Answers}
use Rattle.tz_query.specs.declared.query.read_query.Query.{Query}
use Rattle.tz_query.specs.declared.query.output.Output.{Output}

-- the answers so far, and after them those on the page
abbrev pub written : {A : Type 0} → Output A → List ℕ
written output = output.answers.items ++ output.page

-- throughout the kept segment the clock has the type whose suffix is kept
abbrev pub IsSound : {A : Type 0} → Answers A → Type 0
IsSound a = (u : ℤ) → a.segment.from ≤ℤ u → u ≤ℤ a.segment.last
    → IsClock (zone_of a.zone) u a.segment.suffix.local_time_type

-- what was written is the same, and so is the zone
pub record Leaves {A : Type 0} (before after : Answers A) : Type 0 where
  pub zone_is : after.zone ≡ before.zone
  pub sound : IsSound before → IsSound after
  pub output_is : after.output ≡ before.output

-- these bytes stand after what was written, and the zone is the same
pub record Adds {A : Type 0} (before after : Answers A) (text : List ℕ) : Type 0 where
  pub zone_is : after.zone ≡ before.zone
  pub sound : IsSound before → IsSound after
  pub text_is : written after.output ≡ written before.output ++ text

-- the answer lines of a query stand after what was written
abbrev pub IsAnswered : {A : Type 0} → Query → Answers A → Answers A → Type 0
IsAnswered query before after = (answer : List (List ℕ))
    × IsQueryAnswer (zone_of before.zone) query answer × Adds before after (ended answer)
