-- Entries as date times of fields, in a list.
use Rattle.std.specs.Prelude.{◌≡◌, ◌⊎◌, ℤ, List, [], ◌∷◌, ◌++◌, alloc_error}
use Rattle.std.specs.List.{AllZip}
use Rattle.std.proofs.Common.{refl, sym, ◌∙◌, subst}
use Rattle.tz_base.specs.declared.fields.Fields.{Fields}
use Rattle.tz_base.specs.declared.error.TzError.{TzError}
use Rattle.tz_base.specs.declared.error.TzError.TheVariants as faults
use Rattle.tz_base.specs.Fields.{IsValid, reading}
use Rattle.tz.specs.DateTimes.{DateTime, ShowsInstant, moment_of}
use Rattle.tz.specs.Entries.{Entry, Shown, Jump, IsEntryOutside}
use Rattle.tz.specs.Found.{CanBeMade}
use Rattle.tz.specs.declared.datetime.entry_takers.Dated.{Dated}
use Rattle.tz.specs.declared.datetime.found.FoundDateTimeKind.{FoundDateTimeKind}
use Rattle.tz.specs.declared.datetime.found.FoundDateTimeKind.TheVariants.{Normal, Skipped}

-- the entry as a found date time of the fields
abbrev pub IsDateTimeOf : Fields → Entry → FoundDateTimeKind → Type 0
IsDateTimeOf f (Shown u t) found = found ≡ Normal (moment_of f t u)
IsDateTimeOf f (Jump u a b) found =
    (before : DateTime) × (after : DateTime) × (found ≡ Skipped before after)
    × ShowsInstant u f.nanoseconds a before × ShowsInstant u f.nanoseconds b after

-- which is made
abbrev pub IsMadeOf : Fields → Entry → FoundDateTimeKind → Type 0
IsMadeOf f e found = IsDateTimeOf f e found × CanBeMade found

-- the list gains the date times of the entries
abbrev pub GainsDated : {L : Type 0} → (L → L → List FoundDateTimeKind → Type 0) → Dated L → Dated L
    → List Entry → Type 0
GainsDated gains dated grown es =
    (grown.fields.now ≡ dated.fields.now) × (grown.list.ghost_name ≡ dated.list.ghost_name)
    × (found : List FoundDateTimeKind) × gains dated.list.now grown.list.now found
    × AllZip (IsMadeOf dated.fields.now) es found

-- the fields are valid, and this is their reading
abbrev pub TakesEntries : {L : Type 0} → Dated L → ℤ → Type 0
TakesEntries dated r = IsValid dated.fields.now × (reading dated.fields.now ≡ r)

-- why a list refuses an entry: memory, or a side of it is outside the years of 32 bits
abbrev pub IsDatedFault : Type 0 → TzError → Entry → Type 0
IsDatedFault takes_memory fault e = ((fault ≡ faults.Memory alloc_error) × takes_memory)
    ⊎ ((fault ≡ faults.OutOfRange) × IsEntryOutside e)

pub dated_none : {L : Type 0} → (gains : L → L → List FoundDateTimeKind → Type 0)
    → ((list : L) → gains list list []) → (dated : Dated L) → GainsDated gains dated dated []
dated_none gains none dated = (refl, refl, [], none dated.list.now, tt)

both_made : (f : Fields) (es fs : List Entry) (xs ys : List FoundDateTimeKind)
    → AllZip (IsMadeOf f) es xs → AllZip (IsMadeOf f) fs ys
    → AllZip (IsMadeOf f) (es ++ fs) (xs ++ ys)
both_made f [] fs [] ys first second = second
both_made f [] fs (x ∷ xs) ys first second = absurd first
both_made f (e ∷ es) fs [] ys first second = absurd first
both_made f (e ∷ es) fs (x ∷ xs) ys first second = (first.0, both_made f es fs xs ys first.1 second)

pub dated_more : {L : Type 0} → (gains : L → L → List FoundDateTimeKind → Type 0) →
    ((list middle grown : L) (es fs : List FoundDateTimeKind) → gains list middle es
    → gains middle grown fs → gains list grown (es ++ fs)) →
    (dated middle grown : Dated L) (es fs : List Entry) → GainsDated gains dated middle es
    → GainsDated gains middle grown fs → GainsDated gains dated grown (es ++ fs)
dated_more gains more dated middle grown es fs (fields, name, xs, gained, made)
    (fields', name', ys, gained', made') = (
      fields' ∙ fields,
      name' ∙ name,
      xs ++ ys,
      more dated.list.now middle.list.now grown.list.now xs ys gained gained',
      both_made dated.fields.now es fs xs ys made
          (subst (λ (f : Fields). AllZip (IsMadeOf f) fs ys) fields made'),
    )

pub dated_goes_on : {L : Type 0} → (gains : L → L → List FoundDateTimeKind → Type 0)
    → (dated grown : Dated L) (es : List Entry) (r : ℤ) → GainsDated gains dated grown es
    → TakesEntries dated r → TakesEntries grown r
dated_goes_on gains dated grown es r (fields, name, xs, gained, made) takes =
    subst (λ (f : Fields). IsValid f × (reading f ≡ r)) (sym fields) takes
