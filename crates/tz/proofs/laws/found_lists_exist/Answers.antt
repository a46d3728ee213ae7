-- A meaning is that of a list, and nothing refuses it.
use Rattle.tz.proofs.Common.{rules, SFits, to_z-of_z, w32, Result, Ok, Err, List, IfOk, Zone, Fields, TzError, IsClock, IsValid, IsFound, EachCanBeMade, HasMeaning, IsOutcome, FoundDateTimeKind, fields_of}
use Rattle.tz_zone.specs.ZoneRef.{zone_of}
use Rattle.tz.specs.declared.datetime.meaning.Meaning.{Meaning}
use Rattle.tz.proofs.UniqueResults.{no_fault_where_made}
use Rattle.tz.proofs.laws.found_lists_exist.Goals as goal

list_of : (z : Zone) (f : Fields) (r : Result Meaning TzError) → IfOk r (HasMeaning z f) → IsOutcome (λ e. e) ⊥ z f r
    → IsValid f → EachCanBeMade (IsClock z) f → (found : List FoundDateTimeKind) × IsFound (IsClock z) f found
list_of z f (Ok m) (found, is, means) outcome valid made = (found, is)
list_of z f (Err e) has outcome valid made = absurd (no_fault_where_made z f valid made e outcome.err)

pub returns : goal.returns
returns c valid made =
    let a = c.args in
    let f = fields_of a.year a.month a.month_day a.hour a.minute a.second a.nanoseconds in
    let fits : SFits w32 a.year = search rules in
    let same = to_z-of_z w32 a.year fits in
    list_of (zone_of a.zone.now) f c.meaning.result (rw same at c.meaning.ensures.ok)
    (rw same at c.meaning.ensures.outcome) valid made
