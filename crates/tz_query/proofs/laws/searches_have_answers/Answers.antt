-- A meaning is that of a list, and each error has a name.
use Rattle.tz_query.proofs.Common.{rules, SFits, to_z-of_z, w32, sym, subst, refl, inl, inr, [], ◌∷◌, ◌++◌, List, ℕ, codes, IfOk, Result, Ok, Err, Zone, Fields, IsClock, TzError, OutOfRange, field_fault_text, IsFaultText, found_lines, IsSearchAnswer, zone_of}
use Rattle.tz.specs.FindFaults.{IsFindFault}
use Rattle.tz.specs.Meanings.{HasMeaning}
use Rattle.tz.specs.Outcomes.{IsOutcome}
use Rattle.tz.specs.declared.datetime.meaning.Meaning.{Meaning}
use Rattle.tz_query.proofs.laws.searches_have_answers.Goals as goal

refused : (z : Zone) (f : Fields) (e : TzError) → IsFindFault ⊥ (IsClock z) f e
    → (answer : List (List ℕ)) × IsSearchAnswer z f answer
refused z f e (inl (fault, is, first)) = (
  (codes "E " ++ field_fault_text fault) ∷ [],
  inr (
    e,
    field_fault_text fault,
    inl (fault, is, first),
    subst (λ x. IsFaultText x (field_fault_text fault)) (sym is) refl,
    refl,
  ),
)
refused z f e (inr (valid, inl (is, none))) = absurd none
refused z f e (inr (valid, inr (is, one))) = (
  (codes "E " ++ codes "OutOfRange") ∷ [],
  inr (
    e,
    codes "OutOfRange",
    inr (valid, inr (is, one)),
    subst (λ x. IsFaultText x (codes "OutOfRange")) (sym is) refl,
    refl,
  ),
)

has_answer : (z : Zone) (f : Fields) (r : Result Meaning TzError) → IfOk r (HasMeaning z f)
    → IsOutcome (λ e. e) ⊥ z f r → (answer : List (List ℕ)) × IsSearchAnswer z f answer
has_answer z f (Ok m) (found, is, _) outcome =
    (found_lines found, inl (found, outcome.valid, is, outcome.made, refl))
has_answer z f (Err e) has outcome = refused z f e outcome.err

pub returns : goal.returns
returns c =
    let f = c.args.fields.now in
    let fits : SFits w32 f.year = search rules in
    let same = to_z-of_z w32 f.year fits in
    has_answer (zone_of c.args.zone.now) f c.meaning.result (rw same at c.meaning.ensures.ok)
    (rw same at c.meaning.ensures.outcome)
