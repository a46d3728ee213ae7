-- Where by the types of its window clocks show a reading once, one date time is all that is found.
use Rattle.tz.proofs.Common.{arith, refl, ◌≡◌, subst, sym, ints, inr, inl, [], ◌∷◌, ℤ, IsClock, Zone, ◌-ℤ◌, Fields, LocalTimeType, Shown, Normal, AreEntries, HasTwoTypes, IsFound, EachCanBeMade, reading, moment_of}
use Rattle.tz_zone.specs.WindowTypes.{AreTypesIn}
use Rattle.tz_zone.specs.declared.clock.window_types.WindowTypes.{WindowTypes}
use Rattle.tz_zone.specs.declared.clock.window_types.WindowTypes.TheVariants.{One, Two, More}
use Rattle.tz.specs.InPlace.{IsShownOnceIn}
use Rattle.tz.specs.Windows.{IsSearchable}
use Rattle.tz.proofs.ChangeEntries.{first_alone, second_alone}
use Rattle.tz.proofs.DatedEntries.{found_from_entries, made_from_entries}
use Rattle.tz.proofs.EntryWalks.{entries_once}

entries_shown_once : (z : Zone) (r low high : ℤ) → IsSearchable z r low high → (types : WindowTypes) (t : LocalTimeType)
    (u : ℤ) → AreTypesIn (IsClock z) low high types → IsShownOnceIn r types t → u ≡ r -ℤ t.ut_offset
    → AreEntries (IsClock z) r (Shown u t ∷ [])
entries_shown_once z r low high s (One lent) t u through is at =
    entries_once z s.sound.leap_seconds_are r low high t u s.order s.offsets
    (λ v from to. subst (λ (x : LocalTimeType). IsClock z v x) (sym is) (through v from to)) at
entries_shown_once z r low high s (Two jump before after) t u types (inl (first, second, is)) at =
    let has : HasTwoTypes z r jump before.now after.now = record {
      leap_seconds_are = s.sound.leap_seconds_are;
      low = low;
      high = high;
      offsets_are = s.offsets;
      types_are = types;
    } in
    let at_u : u ≡ r -ℤ before.now.ut_offset =
    subst (λ (x : LocalTimeType). u ≡ r -ℤ x.ut_offset) is at in
    subst (λ (x : LocalTimeType). AreEntries (IsClock z) r (Shown u x ∷ [])) (sym is)
    (first_alone before.now after.now at_u refl z has (omega (arith, ints, first, at_u)) second)
entries_shown_once z r low high s (Two jump before after) t u types (inr (first, second, is)) at =
    let has : HasTwoTypes z r jump before.now after.now = record {
      leap_seconds_are = s.sound.leap_seconds_are;
      low = low;
      high = high;
      offsets_are = s.offsets;
      types_are = types;
    } in
    let at_u : u ≡ r -ℤ after.now.ut_offset =
    subst (λ (x : LocalTimeType). u ≡ r -ℤ x.ut_offset) is at in
    subst (λ (x : LocalTimeType). AreEntries (IsClock z) r (Shown u x ∷ [])) (sym is)
    (second_alone before.now after.now refl at_u z has first (omega (arith, ints, second, at_u)))
entries_shown_once z r low high s (More position) t u types once at = absurd once

pub found_once : (z : Zone) (f : Fields) (low high : ℤ) → IsSearchable z (reading f) low high → (types : WindowTypes)
    (t : LocalTimeType) (u : ℤ) → AreTypesIn (IsClock z) low high types → IsShownOnceIn (reading f) types t
    → u ≡ reading f -ℤ t.ut_offset
    → IsFound (IsClock z) f (Normal (moment_of f t u) ∷ []) × EachCanBeMade (IsClock z) f
found_once z f low high s types t u types_are once at =
    let es = Shown u t ∷ [] in
    let found = Normal (moment_of f t u) ∷ [] in
    let are = entries_shown_once z (reading f) low high s types t u types_are once at in (
      found_from_entries (IsClock z) f es found are ((refl, tt), tt),
      made_from_entries (IsClock z) f es found are ((refl, tt), tt),
    )
