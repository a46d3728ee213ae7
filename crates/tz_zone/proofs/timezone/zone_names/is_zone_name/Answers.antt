-- Each of the parts passes.
use Rattle.tz_zone.proofs.Common.{◌≡◌, arith, ℕ, rules, length, ◌<◌, List, false, true, Bool, eqb, false≢true, MatchBool, slash, All, AllWithin, HoldsAt, IsZoneNamePart, cases_from_all, slice_split, true_from_All}
use Rattle.std.proofs.Common.{tests}
use Rattle.std.proofs.lemmas.Iterator.Splits.{YieldsList-from_slice_split}
use Rattle.tz_zone.proofs.timezone.zone_names.is_zone_name.Goals as goal

all_pass : (r : Bool) (xs : List (List ℕ))
    → MatchBool r (AllWithin IsZoneNamePart xs 0 (length xs)) ((k : ℕ) × (k < length xs)
    × HoldsAt (λ part. ¬ IsZoneNamePart part) xs k) → r ≡ true → All IsZoneNamePart xs
all_pass true xs h is = λ k d within. h k d (omega arith) within
all_pass false xs h is = absurd (false≢true is)

pub returns : goal.returns
returns c =
    let parts = slice_split (λ b. eqb b slash) c.args.name.now in
    let cases = cases_from_all _ _ _ IsZoneNamePart (λ part. ¬ IsZoneNamePart part) c.all.ensures.ran
    (YieldsList-from_slice_split _ (λ b. eqb b slash) c.args.name.now (cc) (cc) (cc)
    (λ x b q k. search (rules, tests))) (λ x q k. search (rules, tests)) (λ x q k. search (rules, tests)) in (
      all_pass c.all.result parts cases,
      true_from_All IsZoneNamePart (λ part. ¬ IsZoneNamePart part) c.all.result parts
          (λ part is not. not is) cases,
    )
