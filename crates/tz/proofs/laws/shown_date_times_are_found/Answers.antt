-- A date time that the clock shows is one that a search finds.
use Rattle.tz.proofs.Common.{arith, refl, subst, ◌∙◌, ints, sym, ap, pos, ℤ, IsClock, ◌+ℤ◌, negsuc, LocalTimeType, Normal}
use Rattle.tz.proofs.PromisedLists.{each_can_be_made}
use Rattle.tz.proofs.laws.shown_date_times_are_found.Goals as goal

pub returns-clause-found : goal.returns-clause-found
returns-clause-found c z u n d found (t, clock, shows) is =
    let here = subst (λ (v : ℤ). IsClock z v d.local_time_type) (sym shows.instant_is)
    (subst (λ (s : LocalTimeType). IsClock z u s) (sym shows.type_is) clock) in
    let reads = ap (λ (s : LocalTimeType). u +ℤ s.ut_offset) (sym shows.type_is) in
    is.complete (Normal d) (
      refl,
      (
        here,
        (ap (λ (v : ℤ). v +ℤ d.local_time_type.ut_offset) shows.instant_is) ∙ sym reads ∙ sym shows.civil.reads,
      ),
    )

pub returns-clause-promised : goal.returns-clause-promised
returns-clause-promised c z f fits valid promised =
    each_can_be_made z (negsuc 2147483647) (pos 2147483647) (λ u t clock. let offset = fits u t clock in
    (omega (arith, ints), omega (arith, ints))) (omega (arith, ints)) f valid promised
