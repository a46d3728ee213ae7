-- The answer of an instant is one line.
use Rattle.tz_query.proofs.Common.{refl, [], ◌∷◌, subst, sym, to_z-of_z, w64, rules, SFits, ℤ, Query, IsQueryAnswer, List, ℕ, Time, zone_of}
use Rattle.tz_query.proofs.laws.queries_have_answers.Goals as goal

pub returns-in-Time : goal.returns-in-Time
returns-in-Time c =
    let u = c.in-Time.unix_time in
    let fits : SFits w64 u = search rules in
    let (text, is) = rw (to_z-of_z w64 u fits) at c.times_have_answers.ensures in (
      text ∷ [],
      subst (λ query. IsQueryAnswer (zone_of c.args.zone.now) query (text ∷ [])) (sym c.in-Time.is)
          (text, is, refl),
    )
