-- The answers at the indexes of a column, one after the other.
use Rattle.tz_c.proofs.Common.{refl, inl, inr, ◌≡◌, arith, ◌<◌, ℕ, ◌≤◌, length, sym, Some, List, slice_index_or, ap, slice_get, ◌∙◌, ◌≢◌, [], slice_get_within, suc, zero, ◌+◌, ◌∷◌, slice_get-get_or, AreAnswers, cases_lt, slice_set, same_Some}
use Rattle.std.proofs.lemmas.List.{length-set}
use Rattle.tz.specs.Columns.{AreAnswered}
use Rattle.tz_c.specs.Columns.{AreOkFrom}

-- an element that is set, and another one
set_same : {B : Type 0} (xs : List B) (i : ℕ) (b : B) → i < length xs → slice_get (slice_set xs i b) i ≡ Some b
set_same [] i b within = absurd (omega (arith, within))
set_same (x ∷ xs) zero b within = refl
set_same (x ∷ xs) (suc i) b within = set_same xs i b (omega (arith, within))

set_other : {B : Type 0} (xs : List B) (i j : ℕ) (b : B) → j ≢ i → slice_get (slice_set xs i b) j ≡ slice_get xs j
set_other [] i j b other = refl
set_other (x ∷ xs) zero zero b other = absurd (other refl)
set_other (x ∷ xs) zero (suc j) b other = refl
set_other (x ∷ xs) (suc i) zero b other = refl
set_other (x ∷ xs) (suc i) (suc j) b other = set_other xs i j b (λ e. other (ap suc e))

-- the indexes before the n-th are answered, and the others are as they were
pub record AreAnswersUpTo {B : Type 0} (IsAnswerAt : ℕ → ℕ → B → Type 0) (before after : List B) (codes : List ℕ)
    (n : ℕ) : Type 0 where
  pub lengths_are : (length after ≡ length before) × (length codes ≡ length before)
  pub answered : (i : ℕ) (code : ℕ) (b : B) → i < n → slice_get codes i ≡ Some code → slice_get after i ≡ Some b
      → IsAnswerAt i code b
  pub kept : (i : ℕ) (code : ℕ) → i < n → slice_get codes i ≡ Some code → code ≢ 0
      → slice_get after i ≡ slice_get before i
  pub rest : (i : ℕ) → n ≤ i → slice_get after i ≡ slice_get before i

pub none_yet : {B : Type 0} (IsAnswerAt : ℕ → ℕ → B → Type 0) (before : List B) (codes : List ℕ)
    → length codes ≡ length before
    → AreAnswersUpTo IsAnswerAt before before codes 0
none_yet P before codes same = record {
  lengths_are = (refl, same);
  answered = λ i code b less. absurd (omega (arith, less));
  kept = λ i code less. absurd (omega (arith, less));
  rest = λ i from. refl;
}

pub one_more : {B : Type 0} (IsAnswerAt : ℕ → ℕ → B → Type 0) (before after : List B) (codes : List ℕ) (n code : ℕ)
    (b d : B)
    → AreAnswersUpTo IsAnswerAt before after codes n → n < length before → IsAnswerAt n code b
    → (code ≢ 0 → b ≡ slice_index_or after n d)
    → AreAnswersUpTo IsAnswerAt before (slice_set after n b) (slice_set codes n code) (n + 1)
one_more {B} P before after codes n code b d so_far within is stays = record {
  lengths_are = (length-set after n b ∙ so_far.lengths_are.0, length-set codes n code ∙ so_far.lengths_are.1);
  answered = λ i c x less has_code has.
      elim (cases_lt i n) [
        | inl earlier ↦ let other : i ≢ n = omega (arith, earlier) in
            so_far.answered i c x earlier (sym (set_other codes n i code other) ∙ has_code)
            (sym (set_other after n i b other) ∙ has)
        | inr later ↦ let same : i ≡ n = omega (arith, less, later) in here i c x same has_code has
      ];
  kept = λ i c less has_code fault.
      elim (cases_lt i n) [
        | inl earlier ↦ let other : i ≢ n = omega (arith, earlier) in
            set_other after n i b other ∙ so_far.kept i c earlier (sym (set_other codes n i code other) ∙ has_code)
            fault
        | inr later ↦ let same : i ≡ n = omega (arith, less, later) in here_kept i c same has_code fault
      ];
  rest = λ i from. let other : i ≢ n = omega (arith, from) in let from_n : n ≤ i = omega (arith, from) in
      set_other after n i b other ∙ so_far.rest i from_n;
}
  where
    in_after : n < length after
    in_after = omega (arith, within, so_far.lengths_are.0)

    in_codes : n < length codes
    in_codes = omega (arith, within, so_far.lengths_are.1)

    code_is : (c : ℕ) → slice_get (slice_set codes n code) n ≡ Some c → code ≡ c
    code_is c has = let both : Some code ≡ Some c = sym (set_same codes n code in_codes) ∙ has in cc

    value_is : (x : B) → slice_get (slice_set after n b) n ≡ Some x → b ≡ x
    value_is x has = let both : Some b ≡ Some x = sym (set_same after n b in_after) ∙ has in cc

    here : (i c : ℕ) (x : B) → i ≡ n → slice_get (slice_set codes n code) i ≡ Some c
        → slice_get (slice_set after n b) i ≡ Some x → P i c x
    here i c x same has_code has =
        rw (same, sym (code_is c (rw same at has_code)), sym (value_is x (rw same at has))) is

    here_kept : (i c : ℕ) → i ≡ n → slice_get (slice_set codes n code) i ≡ Some c → c ≢ 0
        → slice_get (slice_set after n b) i ≡ slice_get before i
    here_kept i c same has_code fault =
        let fails : code ≢ 0 = λ e. fault (sym (code_is c (rw same at has_code)) ∙ e) in
        rw same (set_same after n b in_after ∙ ap Some (stays fails) ∙ sym (slice_get-get_or after n d in_after)
        ∙ so_far.rest n (omega arith))

pub all_of : {B : Type 0} (IsAnswerAt : ℕ → ℕ → B → Type 0) (before after : List B) (codes : List ℕ) (n : ℕ)
    → AreAnswersUpTo IsAnswerAt before after codes n → length before ≤ n → AreAnswers IsAnswerAt before after codes
all_of {B} P before after codes n so_far all = record {
  lengths_are = so_far.lengths_are;
  answered = λ i code b has_code has. so_far.answered i code b (below i b has) has_code has;
  kept = λ i code has_code fault. so_far.kept i code (below_code i code has_code) has_code fault;
}
  where
    below : (i : ℕ) (b : B) → slice_get after i ≡ Some b → i < n
    below i b has = omega (arith, slice_get_within after i b has, so_far.lengths_are.0, all)

    below_code : (i code : ℕ) → slice_get codes i ≡ Some code → i < n
    below_code i code has = omega (arith, slice_get_within codes i code has, so_far.lengths_are.1, all)

-- the indexes before the n-th are answered, and those from it on are as they were, with the code of no error
pub record AreCodedUpTo {B : Type 0} (IsAnswerAt : ℕ → ℕ → B → Type 0) (before after : List B) (codes : List ℕ)
    (n : ℕ) : Type 0 where
  pub so_far : AreAnswersUpTo IsAnswerAt before after codes n
  pub ok_from : AreOkFrom n codes

-- a call answers the indexes from one up to another
pub answered_up_to : {B : Type 0} (IsAnswerAt : ℕ → ℕ → B → Type 0) (IsValueAt : ℕ → B → Type 0)
    (before xs ys : List B) (codes : List ℕ) (first end : ℕ)
    → ((i : ℕ) (b : B) → IsValueAt i b → IsAnswerAt i 0 b) → first ≤ end
    → AreCodedUpTo IsAnswerAt before xs codes first → AreAnswered IsValueAt first end xs ys
    → AreCodedUpTo IsAnswerAt before ys codes end
answered_up_to P V before xs ys codes first end is_answer order coded all = record {
  so_far = record {
    lengths_are = (all.length_is ∙ coded.so_far.lengths_are.0, coded.so_far.lengths_are.1);
    answered = λ i code b less has_code has.
        elim (cases_lt i first) [
          | inl earlier ↦ coded.so_far.answered i code b earlier has_code (sym (all.below i earlier) ∙ has)
          | inr later ↦ rw (coded.ok_from i code later has_code) (is_answer i b (all.answered i b later less has))
        ];
    kept = λ i code less has_code fault.
        elim (cases_lt i first) [
          | inl earlier ↦ all.below i earlier ∙ coded.so_far.kept i code earlier has_code fault
          | inr later ↦ absurd (fault (coded.ok_from i code later has_code))
        ];
    rest = λ i from. let after : first ≤ i = omega (arith, from, order) in
        all.past i from ∙ coded.so_far.rest i after;
  };
  ok_from = λ i code from has. coded.ok_from i code (omega (arith, from, order)) has;
}

-- the next index has no value, and gets a code
pub refused_at : {B : Type 0} (IsAnswerAt : ℕ → ℕ → B → Type 0) (before after : List B) (codes : List ℕ)
    (n code : ℕ) → n < length before → ((b : B) → IsAnswerAt n code b)
    → AreCodedUpTo IsAnswerAt before after codes n
    → AreCodedUpTo IsAnswerAt before after (slice_set codes n code) (n + 1)
refused_at {B} P before after codes n code within is coded = record {
  so_far = record {
    lengths_are = (coded.so_far.lengths_are.0, length-set codes n code ∙ coded.so_far.lengths_are.1);
    answered = λ i c b less has_code has.
        elim (cases_lt i n) [
          | inl earlier ↦ let other : i ≢ n = omega (arith, earlier) in
              coded.so_far.answered i c b earlier (sym (set_other codes n i code other) ∙ has_code) has
          | inr later ↦ let same : i ≡ n = omega (arith, less, later) in here i c b same has_code
        ];
    kept = λ i c less has_code fault.
        elim (cases_lt i n) [
          | inl earlier ↦ let other : i ≢ n = omega (arith, earlier) in
              coded.so_far.kept i c earlier (sym (set_other codes n i code other) ∙ has_code) fault
          | inr later ↦ coded.so_far.rest i later
        ];
    rest = λ i from. let after : n ≤ i = omega (arith, from) in coded.so_far.rest i after;
  };
  ok_from = λ i c from has. let other : i ≢ n = omega (arith, from) in
      coded.ok_from i c (omega (arith, from)) (sym (set_other codes n i code other) ∙ has);
}
  where
    in_codes : n < length codes
    in_codes = omega (arith, within, coded.so_far.lengths_are.1)

    here : (i c : ℕ) (b : B) → i ≡ n → slice_get (slice_set codes n code) i ≡ Some c → P i c b
    here i c b same has =
        let both : Some code ≡ Some c = sym (set_same codes n code in_codes) ∙ (rw same at has) in
        rw (same, sym (same_Some code c both)) (is b)

-- before the first call
pub none_coded : {B : Type 0} (IsAnswerAt : ℕ → ℕ → B → Type 0) (before : List B) (codes : List ℕ)
    → length codes ≡ length before → AreOkFrom 0 codes → AreCodedUpTo IsAnswerAt before before codes 0
none_coded P before codes same ok = record { so_far = none_yet P before codes same; ok_from = ok }
