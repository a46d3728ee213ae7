-- Indexes that a stretch answers, and the first index without an instant, after those that are answered.
use Rattle.tz.proofs.Common.{arith, subst, sym, ℕ, ℤ, List, Option, ◌≤◌, TzError, Zone, Disambiguation}
use Rattle.tz.specs.Columns.{AreAnswered}
use Rattle.tz.specs.InstantColumns.{HoldsInstantAt, IsFirstWithout, IsInstantOfReading, IsShownIn, IsStretch}
use Rattle.tz.specs.declared.columns.instants.NoInstant.{NoInstant}
use Rattle.tz.specs.declared.columns.instants.Stretch.{Stretch}
use Rattle.tz.proofs.ColumnAnswers.{and_then, in_other_words}

pub still_first_without : {V : Type 0} (IsAnswerAt : ℕ → V → Type 0) (IsNoneAt : ℕ → Option TzError → Type 0)
    (first middle : ℕ) (xs ys zs : List V) (refused : NoInstant) → first ≤ middle
    → AreAnswered IsAnswerAt first middle xs ys → IsFirstWithout IsAnswerAt IsNoneAt middle ys zs refused
    → IsFirstWithout IsAnswerAt IsNoneAt first xs zs refused
still_first_without IsAnswerAt IsNoneAt first middle xs ys zs refused order so_far later = record {
  within = (
    omega (arith, order, later.within.0),
    omega (arith, later.within.1, so_far.length_is),
  );
  none = later.none;
  up_to = and_then IsAnswerAt first middle refused.index xs ys zs order later.within.0 so_far later.up_to;
}

-- what a stretch of the zone's clock shows is meant
pub by_stretch : {S : Type 0} (holding : ℤ → S) (z : Zone) (choice : Disambiguation) (s : Stretch) (readings : List ℤ)
    (first end : ℕ) (xs ys : List S) → IsStretch z s
    → AreAnswered (HoldsInstantAt holding (IsShownIn s) readings) first end xs ys
    → AreAnswered (HoldsInstantAt holding (IsInstantOfReading z choice) readings) first end xs ys
by_stretch holding z choice s readings first end xs ys is all =
    in_other_words (HoldsInstantAt holding (IsShownIn s) readings)
    (HoldsInstantAt holding (IsInstantOfReading z choice) readings) first end xs ys
    (λ i slot from less holds r at. let h = holds r at in (
      h.0,
      subst (λ (u : ℤ). IsInstantOfReading z choice r u) (sym h.1.2) (is r choice h.1.0 h.1.1),
      h.2,
    )) all
