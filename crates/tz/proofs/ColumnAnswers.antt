-- Answers of one part of a column after those of another, at one more index, and of a block in one segment.
use Rattle.tz.proofs.Common.{arith, refl, ◌≡◌, ◌∙◌, sym, inl, inr, subst, [], ap, ℕ, ℤ, ◌∷◌, ◌<◌, ◌≤ℤ◌, List, length, ◌+◌, ◌-◌, Some, Option, ◌≤◌, suc, zero, ◌≢◌, cases_lt, slice_get, slice_index_or, get_or, same_Some, Zone, LocalTimeType, IsClock, TzError}
use Rattle.std.proofs.lemmas.List.{length-set, set-get_or}
use Rattle.std.proofs.lemmas.List.Edits.{get_or-between, length-between}
use Rattle.std.proofs.lemmas.Option.{get_or_from_slice_get, slice_get_read}
use Rattle.std.specs.List.{between}
use Rattle.std.specs.Prelude.{slice_set}
use Rattle.tz_zone.specs.Changes.{Segment, IsTrueSegment, HasTypeOrNone}
use Rattle.tz.specs.Columns.{AreAnswered, AreInSegment, IsFirstUnanswered, IsOffsetAt}
use Rattle.tz.specs.declared.columns.Unanswered.{Unanswered}

-- an element that is set, and another one
set_same : {V : Type 0} (xs : List V) (i : ℕ) (v : V) → i < length xs → slice_get (slice_set xs i v) i ≡ Some v
set_same [] i v within = absurd (omega (arith, within))
set_same (x ∷ xs) zero v within = refl
set_same (x ∷ xs) (suc i) v within = set_same xs i v (omega (arith, within))

set_other : {V : Type 0} (xs : List V) (i j : ℕ) (v : V) → j ≢ i → slice_get (slice_set xs i v) j ≡ slice_get xs j
set_other [] i j v other = refl
set_other (x ∷ xs) zero zero v other = absurd (other refl)
set_other (x ∷ xs) zero (suc j) v other = refl
set_other (x ∷ xs) (suc i) zero v other = refl
set_other (x ∷ xs) (suc i) (suc j) v other = set_other xs i j v (λ e. other (ap suc e))

-- an element that is set to what it was
pub set_back : {V : Type 0} (xs : List V) (i : ℕ) (v d : V) → v ≡ slice_index_or xs i d → slice_set xs i v ≡ xs
set_back xs i v d same = rw same (set-get_or xs i d)

module _ {V : Type 0} (IsAnswerAt : ℕ → V → Type 0) where
  pub and_then : (first middle end : ℕ) (xs ys zs : List V) → first ≤ middle → middle ≤ end
      → AreAnswered IsAnswerAt first middle xs ys → AreAnswered IsAnswerAt middle end ys zs
      → AreAnswered IsAnswerAt first end xs zs
  and_then first middle end xs ys zs order order_after one other = record {
    length_is = other.length_is ∙ one.length_is;
    answered = λ j v from less has.
        elim (cases_lt j middle) [
          | inl earlier ↦ one.answered j v from earlier (sym (other.below j earlier) ∙ has)
          | inr later ↦ other.answered j v later less has
        ];
    below = λ j less. let before : j < middle = omega (arith, less, order) in other.below j before ∙ one.below j less;
    past = λ j from. let after : middle ≤ j = omega (arith, from, order_after) in other.past j from ∙ one.past j after;
  }

  pub one_more : (first i : ℕ) (xs ys : List V) (v : V) → first ≤ i → i < length ys → IsAnswerAt i v
      → AreAnswered IsAnswerAt first i xs ys → AreAnswered IsAnswerAt first (i + 1) xs (slice_set ys i v)
  one_more first i xs ys v order within is so_far =
      and_then first i (i + 1) xs ys (slice_set ys i v) order (omega arith) so_far (record {
        length_is = length-set ys i v;
        answered = λ j w from less has. here j w (omega (arith, from, less)) has;
        below = λ j less. set_other ys i j v (omega (arith, less));
        past = λ j from. set_other ys i j v (omega (arith, from));
      })
    where
      here : (j : ℕ) (w : V) → j ≡ i → slice_get (slice_set ys i v) j ≡ Some w → IsAnswerAt j w
      here j w same has =
          let both : Some v ≡ Some w = sym (set_same ys i v within) ∙ (rw same at has) in
          rw (same, sym (same_Some v w both)) is

  -- what is an answer in one sense is one in another
  pub in_other_words : (IsAnswerToo : ℕ → V → Type 0) (first end : ℕ) (xs ys : List V)
      → ((i : ℕ) (v : V) → first ≤ i → i < end → IsAnswerAt i v → IsAnswerToo i v)
      → AreAnswered IsAnswerAt first end xs ys → AreAnswered IsAnswerToo first end xs ys
  in_other_words IsAnswerToo first end xs ys weaker all = record {
    length_is = all.length_is;
    answered = λ i v from less has. weaker i v from less (all.answered i v from less has);
    below = all.below;
    past = all.past;
  }

  -- the first index without an answer of those from a later one on
  pub still_first : (IsFaultAt : ℕ → TzError → Type 0) (first middle : ℕ) (xs ys zs : List V) (unanswered : Unanswered)
      → first ≤ middle → AreAnswered IsAnswerAt first middle xs ys
      → IsFirstUnanswered IsAnswerAt IsFaultAt middle ys zs unanswered
      → IsFirstUnanswered IsAnswerAt IsFaultAt first xs zs unanswered
  still_first IsFaultAt first middle xs ys zs unanswered order so_far refused = record {
    within = (
      omega (arith, order, refused.within.0),
      omega (arith, refused.within.1, so_far.length_is),
    );
    fault = refused.fault;
    up_to = and_then first middle unanswered.index xs ys zs order refused.within.0 so_far refused.up_to;
  }

-- the clock has the type of a segment at each of its instants
pub type_in : (z : Zone) (s : Segment) (u : ℤ) (t : LocalTimeType) → IsTrueSegment z s → s.from ≤ℤ u → u ≤ℤ s.last
    → s.local_time_type ≡ Some t → IsClock z u t
type_in z s u t holds from last is =
    subst (λ (o : Option LocalTimeType). HasTypeOrNone z u o) is (holds.holds u from last)

-- an instant of a block that is in a segment
of_block : (s : Segment) (xs : List ℤ) (first end : ℕ) → AreInSegment s (between first end xs) → end ≤ length xs
    → (i : ℕ) (u : ℤ) → first ≤ i → i < end → slice_get xs i ≡ Some u → (s.from ≤ℤ u) × (u ≤ℤ s.last)
of_block s xs first end all within i u from less has =
    let place : first + (i - first) ≡ i = omega (arith, from) in
    let value = get_or-between xs first end (i - first) u (omega (arith, from, less))
    ∙ ap (λ (j : ℕ). get_or xs j u) place ∙ get_or_from_slice_get xs i u u has in
    all (i - first) u (slice_get_read (between first end xs) (end - first) (i - first) u
    (sym (length-between xs first end within)) (omega (arith, from, less)) (sym value))

-- the offset of the segment's type answers a block that is in the segment
pub filled : (z : Zone) (s : Segment) (t : LocalTimeType) (xs : List ℤ) (first end : ℕ) (offset : ℤ)
    (before after : List ℤ) → IsTrueSegment z s → s.local_time_type ≡ Some t → AreInSegment s (between first end xs)
    → end ≤ length xs → offset ≡ t.ut_offset → AreAnswered (λ _ written. written ≡ offset) first end before after
    → AreAnswered (IsOffsetAt z xs) first end before after
filled z s t xs first end offset before after holds is all within offset_is answers =
    in_other_words (λ _ written. written ≡ offset) (IsOffsetAt z xs) first end before after
    (λ i v from less same u has. let inside = of_block s xs first end all within i u from less has in
    (t, type_in z s u t holds inside.0 inside.1 is, same ∙ offset_is)) answers
